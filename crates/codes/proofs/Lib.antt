-- The laws of the crate `codes`.
pub mod RangeTableLaws
pub mod RowLaws
pub mod CodeLaws
