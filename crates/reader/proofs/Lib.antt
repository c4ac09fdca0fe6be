-- The laws of the crate `reader`.
pub mod ReadingLaws
pub mod FaultPlaces
