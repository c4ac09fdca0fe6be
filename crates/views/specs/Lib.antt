-- The definitions of the crate `views`.
pub mod View
