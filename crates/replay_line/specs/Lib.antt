-- What is read out of a list, and what a digest tells of a table.
pub mod Text
pub mod Lines
pub mod Tables
