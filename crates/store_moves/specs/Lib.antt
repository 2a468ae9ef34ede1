-- Moves of a row to another archetype: the target, the row's bytes, the tests and the step that insert and remove share.
pub mod Lists
pub mod Target
pub mod Moves
pub mod Steps
pub mod Kept
pub mod Lines
