-- The laws by which the code is joined to the definitions.
pub mod ChunkLaws
pub mod PassLaws
pub mod AssociatedLaws
pub mod MixLaws
pub mod ShortLaws
pub mod WideLaws
