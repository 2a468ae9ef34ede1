-- The laws of cells, rows and blocks of columns that callers cite, those of the loops, and that the contracts leave no second result.
pub mod Laws
pub mod Loops
pub mod Lines
pub mod Rows
pub mod Blocks
pub mod Runs
pub mod Determined
