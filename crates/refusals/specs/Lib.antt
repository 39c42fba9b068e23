-- Refusals: definitions and computed examples.
pub mod Numbers
pub mod Outcomes
pub mod Examples
pub mod Causes
pub mod Due
