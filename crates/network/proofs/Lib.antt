-- Laws that proofs cite.
pub mod PartLaws
