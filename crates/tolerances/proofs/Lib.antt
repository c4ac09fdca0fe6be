-- Laws of the definitions of the crate `tolerances`.
pub mod TolerancesLaws
