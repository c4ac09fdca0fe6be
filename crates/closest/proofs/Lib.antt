-- The laws of the crate `closest`.
pub mod ClosestLaws
