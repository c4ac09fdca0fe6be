-- The laws of the crate `heights`.
pub mod Order
pub mod Entries
pub mod LineLaws
pub mod FractionLaws
pub mod NearLaws
pub mod AreaLaws
pub mod WindowLaws
pub mod ExtremeLaws
pub mod ValidLaws
pub mod BudgetLaws
pub mod EqualLaws
pub mod SelectedLaws
pub mod AgainLaws
pub mod Examples
