-- The definitions of the crate `reduction`.
pub mod Walking
pub mod Galloping
