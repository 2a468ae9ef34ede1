-- Laws that the proofs of this crate share, and those that callers cite.
mod Ways
pub mod Handing
pub mod Heads
mod Reading
pub mod Determined
