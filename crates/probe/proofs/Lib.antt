-- What is proved of the probe's promises.
pub mod WideLaws
pub mod Determined
