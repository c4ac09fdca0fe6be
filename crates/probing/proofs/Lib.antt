-- The laws of the crate `probing`.
pub mod ProbingLaws
