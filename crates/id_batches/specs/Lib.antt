-- The calls on n numbers: reserve, allocate many and walk them, flush, list the free ones.
pub mod Seating
pub mod Reserve
pub mod Freelist
pub mod Flush
pub mod AllocMany
