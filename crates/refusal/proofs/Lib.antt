-- That the contract leaves no second result.
pub mod Determined
