-- The laws of the crate `views`.
pub mod CheapestLaws
pub mod ViewLaws
