-- Laws that proofs cite, and claims.
pub mod Searching
pub mod Counting
pub mod EndRows
pub mod Studying
