-- What crosses with the id calls alone.
pub mod Span
pub mod State
pub mod Words
