-- The laws of the crate `channels`.
pub mod ChannelLaws
