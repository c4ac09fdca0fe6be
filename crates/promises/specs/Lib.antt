-- The definitions of the crate `promises`.
pub mod Nearness
pub mod NoFactor
pub mod Probes
pub mod Pedestals
pub mod Dropouts
pub mod Parts
pub mod Sums
pub mod Scans
pub mod Views
