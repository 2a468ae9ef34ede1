-- Laws of store calls that have crossed.
pub mod Determined
