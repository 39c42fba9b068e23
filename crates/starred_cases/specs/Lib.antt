-- The scope's starred bench cases: the table, and the claim that covers it.
pub mod Starred
pub mod Claim
