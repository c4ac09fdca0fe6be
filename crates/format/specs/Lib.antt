-- The definitions of the crate `format`.
pub mod Kind
pub mod Number
pub mod Command
pub mod Format
pub mod Fault
