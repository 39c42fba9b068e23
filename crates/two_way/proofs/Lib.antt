-- Laws that proofs cite, and claims.
pub mod FirstGame
pub mod SameTable
pub mod TwoWaySound
