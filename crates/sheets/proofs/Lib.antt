-- The laws that this crate's proofs and those of the layers above cite.
pub mod SealLaws
pub mod TextLaws
pub mod SheetLaws
