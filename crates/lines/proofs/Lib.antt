-- What the proofs of the listing's functions cite, and 01's example of a listing.
pub mod LaidLaws
pub mod DecimalLaws
pub mod ListingLaws
pub mod Examples
