-- What sound tables are, and what the rules of the id layer do to them.
pub mod Sound
pub mod IdCalls
