-- The laws of the key schedule that this crate's proofs and those of the layers above cite, and worked examples.
pub mod Laws
pub mod Examples
