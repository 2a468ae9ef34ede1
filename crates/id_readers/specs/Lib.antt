-- The reader of a reservation, and the answers of both walks.
pub mod Reader
pub mod State
