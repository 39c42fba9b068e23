-- Line tables: definitions and computed examples.
pub mod Limits
pub mod Layout
pub mod Lines
pub mod Holds
pub mod TableOutcomes
pub mod Examples
