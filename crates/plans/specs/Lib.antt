-- The ladders of refusals of the store's calls.
pub mod Plans
