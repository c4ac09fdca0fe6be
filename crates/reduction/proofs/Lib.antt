-- The laws of the crate `reduction`.
pub mod ReductionLaws
