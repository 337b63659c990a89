-- What is proved of XTS-AES for every input, and what its calls need.
pub mod Bounds
pub mod NumberLaws
pub mod KeyLaws
pub mod Ladder
pub mod Promise
pub mod Determined
pub mod Examples
