-- An archetype's part of the tables, and what a row that leaves and a row that is taken do to the tables of places and rows.
pub mod Parts
pub mod Seats
