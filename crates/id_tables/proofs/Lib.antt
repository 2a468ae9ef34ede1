-- Laws that the proofs of this crate share, and those that callers cite.
mod Cursor
pub mod Entering
pub mod Falling
pub mod Meaning
pub mod Passing
pub mod Damage
pub mod Parts
mod Scanning
pub mod Filling
pub mod Laws
pub mod Placing
mod Looking
pub mod Determined
pub mod Refusing
pub mod Heads
