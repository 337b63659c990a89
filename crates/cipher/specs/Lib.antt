-- FIPS 197, 5.1 and 5.3: Cipher and InvCipher.
pub mod Cipher
