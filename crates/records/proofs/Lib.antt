-- The laws that this crate's proofs and those of the layers above cite.
pub mod FieldLaws
pub mod WriteLaws
pub mod RecordLaws
pub mod EarlierLaws
pub mod ZeroLaws
