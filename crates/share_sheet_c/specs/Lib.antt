-- What callers in C are handed: definitions and computed examples.
pub mod Status
pub mod Examples
