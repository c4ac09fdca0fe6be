-- The definitions of the crate `verdicts`.
pub mod Sums
