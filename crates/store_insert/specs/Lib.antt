-- The rule of insert, and what its tests find.
pub mod Insert
pub mod Seen
