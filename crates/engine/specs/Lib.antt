-- The outcomes of the public calls.
pub mod Reduce
pub mod Minimum
pub mod Write
pub mod Least
pub mod Sum
pub mod Scan
