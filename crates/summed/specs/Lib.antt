-- The definitions of the crate `summed`.
pub mod Sum
