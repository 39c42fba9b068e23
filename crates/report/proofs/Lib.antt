-- Laws that proofs cite, and claims.
pub mod PrintedFront
pub mod Printing
