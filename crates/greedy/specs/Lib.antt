-- The definitions of the crate `greedy`.
pub mod Greedy
