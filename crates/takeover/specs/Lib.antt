-- What each conversion comes to.
pub mod Sources
