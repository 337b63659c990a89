-- What the listing of 01 prints, and what a function that writes it into a lent buffer promises.
pub mod Decimal
pub mod Laid
pub mod Listing
