-- The definitions of the crate `tolerance`.
pub mod Meaning
