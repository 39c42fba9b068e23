-- Units, cases and additions: definitions and computed examples.
pub mod Unit
pub mod TermCases
pub mod Added
pub mod Examples
