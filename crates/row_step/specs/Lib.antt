-- Rows of an archetype in the lent tables.
pub mod Tables
