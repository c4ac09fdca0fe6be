-- What follows from the contracts of the public calls.
pub mod Standing
pub mod Heights
pub mod Again
pub mod Nearness
pub mod NoFactor
pub mod Probes
pub mod Report
pub mod Measures
pub mod Greedy
pub mod Expand
pub mod PedestalShift
pub mod Pedestals
pub mod Dropouts
pub mod Parts
pub mod Sums
pub mod Scans
pub mod Views
