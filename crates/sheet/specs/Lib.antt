-- What the crate `sheet` holds.
pub mod Report
