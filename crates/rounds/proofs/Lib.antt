-- The laws that this crate's proofs and those of the layers above cite, and the worked examples.
pub mod Columns
pub mod Undo
pub mod Examples
