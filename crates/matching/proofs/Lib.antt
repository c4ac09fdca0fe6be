-- The laws of the crate `matching`.
pub mod MatchLaws
