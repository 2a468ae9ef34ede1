-- Laws that the proofs of spawn at share, those that callers cite, and that the contract leaves no second result.
mod Finding
mod Testing
mod Taking
pub mod Laws
pub mod Refusing
pub mod Determined
