-- Laws that proofs cite, and claims.
pub mod Mirror
pub mod ValidEntries
