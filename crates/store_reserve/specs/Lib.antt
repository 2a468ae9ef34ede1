-- The rules of the store's reservations and of its free list.
pub mod Reserve
