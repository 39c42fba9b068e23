-- Text: definitions and computed examples.
pub mod Text
pub mod Examples
pub mod Templates
