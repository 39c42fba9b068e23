-- Laws that proofs cite, and claims.
pub mod Causes
pub mod Due
pub mod NumberLaws
