-- The outcomes that answers of Degree and of a row's place stand for.
pub mod LookupAnswers
