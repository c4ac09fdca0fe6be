-- The laws of the crate `turns`.
pub mod SampleLaws
pub mod HeldLaws
