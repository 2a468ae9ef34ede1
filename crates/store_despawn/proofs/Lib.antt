-- Laws that the proofs of despawn share, those that callers cite, and that the contract leaves no second result.
mod Testing
mod Ending
pub mod Laws
pub mod Granting
pub mod Refusing
pub mod Determined
