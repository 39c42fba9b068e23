-- Divisors, multiples and cancelled pairs: definitions and computed examples.
pub mod Divisors
pub mod Cancel
pub mod Examples
pub mod Odd
