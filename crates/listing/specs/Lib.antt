-- The definitions of the crate `listing`.
pub mod Listing
