-- Laws that proofs cite, and claims.
pub mod RefusedFits
