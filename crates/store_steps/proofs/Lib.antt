-- Laws that the proofs of the steps cite, those that callers cite, and that the contracts leave no second result.
mod Stepping
pub mod Laws
pub mod Determined
