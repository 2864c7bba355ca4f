-- What the proofs of several functions use.
pub mod Flags
pub mod Heads
pub mod Static
