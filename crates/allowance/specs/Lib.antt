-- The definitions of the crate `allowance`.
pub mod Rows
