-- What the tables of a column call must be, and what that gives it.
pub mod Entry
pub mod Kept
