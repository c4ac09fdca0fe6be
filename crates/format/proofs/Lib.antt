-- The laws of the crate `format`.
pub mod NumberLaws
pub mod CommandLaws
pub mod RuleLaws
pub mod HeaderLaws
pub mod ParseEncode
pub mod EncodeParse
pub mod SameLaws
pub mod RunLaws
pub mod FaultLaws
pub mod Examples
