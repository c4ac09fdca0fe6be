-- The laws of the crate `commands`.
pub mod CommandsAt
pub mod StepLaws
pub mod PassLaws
