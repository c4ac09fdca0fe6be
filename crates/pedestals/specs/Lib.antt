-- What the crate `pedestals` holds.
pub mod Compare
pub mod Checking
