-- Laws that proofs cite, and claims.
pub mod Placing
pub mod Shifts
pub mod InsertionLaws
