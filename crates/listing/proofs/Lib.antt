-- The laws of the crate `listing`.
pub mod ListingLaws
