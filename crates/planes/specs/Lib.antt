-- Sixteen blocks in planes.
pub mod Lanes
pub mod Planes
