-- The laws of the crate `pedestals`.
pub mod CheckLaws
pub mod ListLaws
