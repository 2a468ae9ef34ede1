-- Laws that the proofs of this crate share, and those that callers cite.
pub mod Setting
mod Writing
pub mod Upward
mod Ways
pub mod Numbers
pub mod Granted
pub mod Fitting
pub mod Outputs
pub mod Refusing
pub mod Seats
pub mod Handed
pub mod Walks
pub mod Determined
pub mod Heads
