-- The definitions of the crate `probing`.
pub mod Probing
