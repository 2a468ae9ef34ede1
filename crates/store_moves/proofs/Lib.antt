-- Laws of the search for a target (Seeking, Targets), of a move that is granted (Passing), of what the step leaves (Moving)
-- and what the new row's cells hold (Sharing), and that the contracts leave no second result (Determined). The rest serves
-- the proofs here.
pub mod Splicing
pub mod Seeking
mod Testing
mod Stepping
pub mod Gathering
pub mod Targets
pub mod Passing
pub mod Moving
pub mod Owning
pub mod Sharing
pub mod Standing
pub mod Refusing
pub mod Determined
