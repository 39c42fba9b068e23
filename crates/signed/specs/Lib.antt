-- Signed numbers: definitions and computed examples.
pub mod Signed
pub mod Examples
