-- The rule of remove, and what its tests find.
pub mod Remove
pub mod Seen
