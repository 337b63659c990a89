-- The laws that this crate's promises are known by.
pub mod Determined
