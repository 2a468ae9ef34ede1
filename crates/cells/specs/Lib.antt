-- A run of bytes in the one lent buffer, and a row's bytes in the columns of an archetype.
pub mod Cell
pub mod Line
