-- Laws that proofs cite, and claims.
pub mod Arrange
pub mod EveryOrder
pub mod Fairness
pub mod Islands
pub mod Joining
pub mod Pivot
pub mod Rank
pub mod Reach
pub mod Renumbering
pub mod Terms
pub mod Total
pub mod Value
