-- Laws that proofs cite, and claims.
pub mod DecimalLaws
pub mod SignedDecimal
pub mod Templates
