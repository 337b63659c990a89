-- XTS-AES (IEEE 1619-2007), as 02's order 3 scopes it, and its calls.
pub mod Xts
pub mod Calls
