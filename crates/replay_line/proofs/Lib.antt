-- The laws of the loops and of parts of a list, and that the contracts leave no second result.
pub mod Turns
pub mod Parts
pub mod Bytes
pub mod Determined
