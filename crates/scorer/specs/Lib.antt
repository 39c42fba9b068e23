-- What answers of Shares and Share stand for, and computed examples; what the scorer's functions promise one another; and that entries beyond the table never matter.
pub mod ShareAnswers
pub mod ScorerWork
pub mod Examples
