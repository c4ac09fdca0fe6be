-- The laws of the crate `shortest`.
pub mod ShortestLaws
pub mod Tables
