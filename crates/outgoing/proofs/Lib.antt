-- The laws of the crate `outgoing`.
pub mod OutgoingLaws
pub mod StopLaws
