-- The vocabulary of every rule, and the laws by which proofs use it.
pub mod Number
pub mod Table
pub mod Distinct
pub mod Laws
pub mod Chain
pub mod Truth
