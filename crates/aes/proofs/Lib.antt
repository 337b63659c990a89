-- What the calls' proofs need, and that the calls' promise determines them.
pub mod Ladder
pub mod CallLaws
