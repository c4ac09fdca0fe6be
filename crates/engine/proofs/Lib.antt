-- The laws of the public calls' definitions.
pub mod ReduceLaws
pub mod WriteLaws
pub mod LeastLaws
pub mod SumLaws
pub mod ScanLaws
