-- Laws of what crosses with the id calls alone.
pub mod Determined
mod Laws
