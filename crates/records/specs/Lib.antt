-- One record of the store, its marks, and what it was before revisions went past 65,535.
pub mod Record
pub mod Earlier
pub mod Marks
