-- What the programs fill their slices with, and what they print of them.
pub mod Pattern
pub mod Digest
