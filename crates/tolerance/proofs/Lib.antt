-- The laws of the crate `tolerance`.
pub mod Values
pub mod Meanings
pub mod Agreement
pub mod Examples
