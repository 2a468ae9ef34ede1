-- The law of a table that is kept, and that the contracts leave no second result.
pub mod Kept
pub mod Determined
