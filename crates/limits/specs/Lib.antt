-- The definitions of the crate `limits`.
pub mod Prepare
