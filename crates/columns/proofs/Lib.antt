-- The laws of the calls' tests and answers, what rows hold afterwards, and that the contracts leave no second result.
pub mod Tests
pub mod Places
pub mod Steps
pub mod Answers
pub mod Cells
pub mod Held
pub mod Moving
pub mod Determined
