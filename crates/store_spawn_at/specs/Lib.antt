-- The rule of spawn at, and what its tests find of the chosen number.
pub mod SpawnAt
pub mod Seen
