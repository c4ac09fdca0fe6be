-- The definitions of the crate `expanding`.
pub mod Expand
