-- The laws of the crate `reporting`.
pub mod ReportLaws
