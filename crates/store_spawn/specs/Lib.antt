-- The rule of spawn, and what its tests find.
pub mod Spawn
pub mod Seen
