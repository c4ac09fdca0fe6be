-- The laws of the crate `scans`.
pub mod WalkedLaws
pub mod PassLaws
pub mod StreamLaws
