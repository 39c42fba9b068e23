-- What the file writer answers and writes: definitions and computed examples.
pub mod FileOf
pub mod WriteOutcome
pub mod RoundTrip
pub mod FileExamples
pub mod WrittenWords
