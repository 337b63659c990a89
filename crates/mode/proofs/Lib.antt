-- What is proved of the wide block and T_star, with 01's edges of them and examples.
pub mod Totals
pub mod ShortBlock
pub mod Undo
pub mod Lengths
pub mod TStarLaws
pub mod Begins
pub mod Edges
pub mod Examples
