-- The definitions of the crate `matching`.
pub mod Match
