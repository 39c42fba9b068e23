-- Shares of the buses of a network, and what Shares and Share answer: definitions and computed examples.
pub mod Network
pub mod Formula
pub mod TableNetwork
pub mod ShareOutcomes
pub mod Examples
pub mod TermsGiven
pub mod ShareClaims
