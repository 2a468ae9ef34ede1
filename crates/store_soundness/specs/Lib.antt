-- What the store's calls do to sound tables, and to what handles read.
pub mod Reads
pub mod StoreCalls
pub mod StoreMoves
