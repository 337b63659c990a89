-- FIPS 197, 5.1 and 5.3: the steps of a round and their inverses on the state. The worked examples are in proofs/Examples.
pub mod Steps
