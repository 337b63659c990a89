-- What the contracts of the layers above are made of: lists of bytes, their xor, their blocks of 16.
pub mod Tab
pub mod Bytes
pub mod Xor
pub mod Blocks
pub mod Double
pub mod Rows
pub mod LittleEndian
pub mod Permutation
