-- The line of a refusal: definitions and computed examples.
pub mod RefusedLine
pub mod Examples
