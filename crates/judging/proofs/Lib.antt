-- The laws of the crate `judging`.
pub mod MeasureLaws
pub mod JudgeLaws
