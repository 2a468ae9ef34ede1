-- All that a store call is lent, what every call tests first, and the rows, places and entities of the store.
pub mod Store
pub mod Rows
pub mod Seen
pub mod Entities
pub mod Held
pub mod Kept
pub mod Run
