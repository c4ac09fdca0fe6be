-- The laws of the crate `verdicts`.
pub mod SumLaws
