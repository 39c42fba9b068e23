-- The outage study: definitions and computed examples.
pub mod Outage
pub mod StudyOutcome
pub mod Examples
pub mod EndTerms
pub mod StudyDue
