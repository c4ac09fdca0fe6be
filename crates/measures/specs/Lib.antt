-- The definitions of the crate `measures`.
pub mod Measure
