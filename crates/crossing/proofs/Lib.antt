-- Laws of heads and answers that cross.
mod Signed
mod Heads
pub mod Sole
pub mod Telling
pub mod Headed
pub mod Determined
