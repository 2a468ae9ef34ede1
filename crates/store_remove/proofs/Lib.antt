-- Laws that the proofs of remove share, those that callers cite, and that the contract leaves no second result.
mod Testing
mod Leaving
mod Calling
pub mod Laws
pub mod Refusing
pub mod Determined
