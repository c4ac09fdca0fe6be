-- The definitions of the crate `shortest`.
pub mod Shortest
