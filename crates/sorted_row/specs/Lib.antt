-- A number inserted into a row: definitions and computed examples.
pub mod Insertion
pub mod Shifting
pub mod Examples
