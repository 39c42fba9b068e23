-- Whole sheets: definitions and computed examples.
pub mod WholeSheet
pub mod Examples
pub mod SheetRoom
pub mod SheetWriting
