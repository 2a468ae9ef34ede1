-- For callers: what a declaration that passes keeps (Keeping), what it takes (Measuring), where its parts stand (Placing,
-- Lending), what a search finds (Search, Looking), and that the contracts leave no second result (Determined). The rest serves the proofs here.
pub mod Lists
pub mod Merge
pub mod Pairs
pub mod Search
pub mod Keeping
pub mod Placing
pub mod Glancing
pub mod Counting
pub mod Checks
pub mod Measuring
pub mod Alone
pub mod Looking
pub mod Lending
pub mod Determined
pub mod Spanning
pub mod Starting
