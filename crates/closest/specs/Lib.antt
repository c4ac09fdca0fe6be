-- The definitions of the crate `closest`.
pub mod Closest
