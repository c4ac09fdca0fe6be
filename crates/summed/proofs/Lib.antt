-- The laws of the crate `summed`.
pub mod EntryLaws
pub mod JoinLaws
pub mod AddLaws
pub mod SumLaws
pub mod RowLaws
