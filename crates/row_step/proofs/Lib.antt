-- What rows hold once a row was appended or removed, what a removal does, and that the contracts leave no second result.
pub mod Steps
pub mod Held
pub mod Determined
