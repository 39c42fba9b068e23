-- What the steps that read records in order promise one another.
pub mod RecordSteps
