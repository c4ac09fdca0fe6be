-- The definitions of the crate `reporting`.
pub mod Report
