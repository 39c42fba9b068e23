-- Laws that proofs cite, and claims.
pub mod Differences
pub mod SignedBits
pub mod SignedLists
