-- The definitions of the crate `commands`.
pub mod Passing
