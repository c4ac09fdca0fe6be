-- The definitions of the crate `turns`.
pub mod Sample
pub mod Held
pub mod Turn
