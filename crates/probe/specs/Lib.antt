-- What the probe promises.
pub mod Calls
