-- The rules of the store's flush and clear.
pub mod Flush
pub mod Clear
