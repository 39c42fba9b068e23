-- The vocabulary of sums, tests, counts and lists: definitions and computed examples.
pub mod Lists
pub mod Below
pub mod Examples
pub mod Writes
