-- Laws of the definitions of the crate `limits`.
pub mod PrepareLaws
