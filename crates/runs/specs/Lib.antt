-- The calls for C one after another.
pub mod Calls
pub mod Runs
pub mod Operators
