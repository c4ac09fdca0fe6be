-- The laws of the crate `measures`.
pub mod MeasureLaws
