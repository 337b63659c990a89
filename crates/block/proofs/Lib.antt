-- The laws that this crate's proofs and those of the layers above cite.
pub mod BoolLaws
pub mod TabLaws
pub mod MadeLaws
pub mod BytesLaws
pub mod Table
pub mod XorLaws
pub mod BlockLaws
pub mod AllBlocks
pub mod ArrayBytes
pub mod DoubleLaws
pub mod DoubleSum
pub mod PadLaws
pub mod RowLaws
pub mod PartLaws
