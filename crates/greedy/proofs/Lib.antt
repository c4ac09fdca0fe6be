-- The laws of the crate `greedy`.
pub mod GreedyLaws
