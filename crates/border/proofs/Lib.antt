-- Examples of what C gets.
pub mod Examples
