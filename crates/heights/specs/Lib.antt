-- The definitions of the crate `heights`.
pub mod Heights
pub mod Windows
pub mod Budget
pub mod Again
