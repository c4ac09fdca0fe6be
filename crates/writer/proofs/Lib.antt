-- The laws of the crate `writer`.
pub mod SelectedLaws
pub mod WritingLaws
