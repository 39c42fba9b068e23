-- What the outage program prints for its input: definitions and computed examples.
pub mod OutageReport
pub mod Examples
pub mod ChangeRoom
pub mod ChangeWriting
