-- Laws that proofs cite, and claims.
pub mod Summing
pub mod Scoring
pub mod BeyondShares
