-- Laws that proofs cite, and claims.
pub mod BeyondTable
pub mod Facts
pub mod Laid
pub mod LaidAgain
pub mod LineCount
pub mod LinePairs
pub mod RowPlaces
pub mod Rows
pub mod TableCauses
