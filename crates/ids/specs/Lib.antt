-- The rules of the calls on one number, and what their answers say.
pub mod Answers
pub mod Reserve
pub mod Alloc
pub mod AllocAt
pub mod Free
