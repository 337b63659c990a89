-- The wide block in the steps that the code takes.
pub mod Passes
