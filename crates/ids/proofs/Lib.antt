-- Laws that the proofs of this crate share, and those that callers cite.
mod Giving
mod Allocating
mod Choosing
mod Freeing
pub mod Determined
pub mod Laws
pub mod Leaving
pub mod Listing
pub mod Passing
pub mod Refusing
mod Reserving
mod Stepping
pub mod Heads
