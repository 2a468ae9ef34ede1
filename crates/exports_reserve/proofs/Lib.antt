-- That the contracts leave no second result.
pub mod Headed
pub mod Determined
