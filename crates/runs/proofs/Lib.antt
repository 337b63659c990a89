-- What 01 says of every run of the calls for C.
pub mod OneRun
pub mod Places
pub mod TheCheck
pub mod ForC
pub mod Operators
pub mod Conversions
