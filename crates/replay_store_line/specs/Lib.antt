-- Tables that lie in one list.
pub mod Store
