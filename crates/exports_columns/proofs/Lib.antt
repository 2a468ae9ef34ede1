-- Laws of column calls that have crossed.
pub mod Moved
pub mod Determined
