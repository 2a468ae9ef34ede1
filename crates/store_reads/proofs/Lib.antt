-- Laws that the proofs of this crate share, and those that callers cite.
pub mod Cells
pub mod Sizes
pub mod Locating
pub mod Reading
pub mod Writing
pub mod Holding
mod Looking
pub mod Meaning
pub mod Agreeing
pub mod Refusing
pub mod Determined
pub mod Finding
