-- What the calls for C of AES and EME2 promise.
pub mod Calls
