-- Bytes in planes of bits: what the contracts are made of.
pub mod Planes
pub mod Wires
