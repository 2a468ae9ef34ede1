-- The proof of the third demand.
pub mod Running
pub mod Spawning
pub mod Looking
pub mod Meeting
pub mod Differing
pub mod Reached
