-- EME2-AES (000), as 01 scopes it, and the calls of 01.
pub mod Transform
pub mod Calls
