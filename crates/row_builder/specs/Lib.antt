-- Counts, row starts and growing rows: definitions and a computed example.
pub mod GrowingRows
pub mod Examples
