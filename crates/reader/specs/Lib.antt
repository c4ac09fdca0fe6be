-- The definitions of the crate `reader`.
pub mod Reading
