-- FIPS 197, 5.2: the key sizes and the key schedule. Worked examples of it are in proofs/Examples.
pub mod Size
pub mod KeyExpansion
