-- What the crate `channels` holds.
pub mod Channels
