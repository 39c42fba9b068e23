-- What Read answers and stores: definitions and computed examples.
pub mod ReadOutcome
pub mod ReadStages
pub mod ReadExamples
pub mod ReadDecides
pub mod ReadFront
