-- What functions of the outage study ask of one another.
pub mod StudyWork
