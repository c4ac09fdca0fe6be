-- The laws of the crate `allowance`.
pub mod RowLaws
