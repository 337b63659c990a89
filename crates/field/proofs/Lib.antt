-- The laws that this crate's proofs and those of the layers above cite, and examples.
pub mod TermLaws
pub mod BitLaws
pub mod FieldLaws
pub mod MaskLaws
pub mod Examples
