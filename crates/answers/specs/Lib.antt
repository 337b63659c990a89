-- What the store's calls promise to C.
pub mod Sheets
