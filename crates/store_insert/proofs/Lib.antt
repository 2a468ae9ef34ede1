-- Laws that the proofs of insert share, those that callers cite, and that the contract leaves no second result.
mod Testing
mod Coming
mod Calling
pub mod Laws
pub mod Refusing
pub mod Determined
