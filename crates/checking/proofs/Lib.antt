-- The laws of the crate `checking`.
pub mod HoldLaws
