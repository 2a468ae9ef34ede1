-- Laws that the proofs of spawn share, those that callers cite, and that the contract leaves no second result.
mod Testing
mod Taking
pub mod Laws
pub mod Granting
pub mod Refusing
pub mod Determined
