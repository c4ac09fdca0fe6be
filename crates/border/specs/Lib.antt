-- The definitions of the crate `border`.
pub mod Border
