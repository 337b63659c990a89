-- A data unit under XTS (IEEE 1619-2007), over any block function and tweak.
pub mod Unit
