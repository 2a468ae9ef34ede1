-- What the first tests give, the laws of the loops, and that the contracts leave no second result.
pub mod Keeping
pub mod Widths
pub mod Passing
pub mod Loops
pub mod Determined
