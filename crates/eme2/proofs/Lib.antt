-- What is proved of EME2-AES for every input, and what its calls need.
pub mod Bounds
pub mod Promise
pub mod KeyLaws
pub mod Ladder
pub mod Determined
