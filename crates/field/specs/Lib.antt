-- The elements of the field, and the masks of a text's blocks.
pub mod Elements
pub mod Masks
