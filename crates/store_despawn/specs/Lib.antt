-- The rule of despawn, and what its tests find.
pub mod Despawn
pub mod Seen
