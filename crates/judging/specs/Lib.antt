-- The definitions of the crate `judging`.
pub mod Measure
pub mod Judge
