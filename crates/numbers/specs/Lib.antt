-- 01's numbers.
pub mod Numbers
