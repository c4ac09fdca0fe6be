-- The definitions of the crate `checking`.
pub mod Checks
pub mod Hold
