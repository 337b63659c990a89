-- What check answers.
pub mod Check
