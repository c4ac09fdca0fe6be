-- The definitions of the crate `codes`.
pub mod RangeTable
pub mod Code
