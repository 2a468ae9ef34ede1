-- Document 01's examples, computed from the rules.
pub mod Examples
