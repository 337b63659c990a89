-- What is proved of a unit.
pub mod AloneLaws
pub mod Undo
pub mod PassLaws
pub mod OneBlock
pub mod Examples
