-- The store calls that move no row: read, write, the lookups, borrow and release of a column.
pub mod Component
pub mod Steps
pub mod Read
pub mod Write
pub mod Words
pub mod Lookup
pub mod Lines
