-- Laws of sound tables.
pub mod Lists
pub mod Meaning
pub mod Growing
pub mod Keeping
pub mod Choosing
pub mod Handing
pub mod Knowing
pub mod Twice
pub mod Calling
pub mod Starting
