-- The laws of the crate `sheet`.
pub mod RowLaws
pub mod ReportLaws
