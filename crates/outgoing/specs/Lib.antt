-- The definitions of the crate `outgoing`.
pub mod Outgoing
