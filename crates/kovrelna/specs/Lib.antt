-- The definitions of the crate `kovrelna`.
pub mod Exports
