-- The definitions of the crate `writer`.
pub mod Writing
