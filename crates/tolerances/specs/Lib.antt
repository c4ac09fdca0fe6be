-- The definitions of the crate `tolerances`.
pub mod Tolerances
