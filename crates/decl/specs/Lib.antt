-- The declaration: its limits, its rules, where its archetypes, columns and cells stand, and type lookup.
pub mod Limits
pub mod Lists
pub mod Decl
pub mod Rules
pub mod Places
pub mod Lookup
pub mod Kept
pub mod Steps
