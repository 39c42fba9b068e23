-- Laws that proofs cite, and claims.
pub mod RecordLaws
pub mod StoringRows
