-- The definitions of the crate `live`.
pub mod Live
pub mod Candidates
