-- The calls of the store: what they answer, and the bytes afterwards.
pub mod Calls
pub mod Conversions
