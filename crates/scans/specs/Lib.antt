-- The definitions of the crate `scans`.
pub mod Answers
pub mod Scan
pub mod Stream
