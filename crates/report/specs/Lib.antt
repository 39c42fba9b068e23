-- What the sheet program prints for a file: definitions and computed examples.
pub mod Report
pub mod Examples
