-- FIPS 197, 4 and 5.1.1: the byte field, the substitution and its tables, and the gates. What is proved of them is in proofs/.
pub mod Field
pub mod Tables
pub mod Sub
pub mod Rule
pub mod Gates
pub mod InverseGates
pub mod AffineGates
pub mod GateRule
pub mod Directions
