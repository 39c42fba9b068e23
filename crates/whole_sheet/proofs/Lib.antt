-- Laws that proofs cite, and claims.
pub mod BeyondSheet
pub mod SheetDue
pub mod SheetFits
pub mod SheetWriting
