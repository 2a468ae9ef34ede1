-- The column calls: what each refuses, and what it answers and leaves where it does not.
pub mod Calls
pub mod Find
