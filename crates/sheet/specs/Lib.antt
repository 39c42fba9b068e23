-- Share sheets: definitions and computed examples.
pub mod Sheet
pub mod LineOutcomes
pub mod Examples
pub mod LineRoom
pub mod LineDue
