-- Laws that the proofs of this crate share, and those that callers cite.
mod Seeing
pub mod Entering
pub mod Places
pub mod Entities
pub mod Vacating
pub mod Passing
pub mod Remaining
pub mod Running
pub mod Determined
