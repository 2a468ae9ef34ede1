-- Laws that the proofs of this crate share, and those that callers cite.
pub mod Lifting
pub mod Laws
pub mod Refusing
pub mod Determined
pub mod Heads
