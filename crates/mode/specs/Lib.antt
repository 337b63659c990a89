-- The wide block of 000 over any block permutation, L and T_star; T_star; and 01's edges of them.
pub mod Wide
pub mod TStar
pub mod Edges
