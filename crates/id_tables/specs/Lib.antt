-- The head and the id tables, what every call tests first, and the lookups.
pub mod Head
pub mod Ids
pub mod Lookup
pub mod Runs
