-- The laws of the crate `live`.
pub mod Full
pub mod LinkErrors
pub mod CandidateLaws
pub mod StateLaws
pub mod LiveLaws
