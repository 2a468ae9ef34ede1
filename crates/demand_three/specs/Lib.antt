-- The third demand, over the rules that the store's calls promise.
pub mod Steps
pub mod Demand
