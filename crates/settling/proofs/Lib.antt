-- What the proofs of several functions use.
pub mod Propagating
pub mod Turns
pub mod Settling
