-- The four rules of a borrow word, and the same at a position of a table of words.
pub mod Word
pub mod Slice
