-- The laws that this crate's proofs and those of the layers above cite.
pub mod StepLaws
pub mod RoundTrip
pub mod Retry
pub mod Determined
