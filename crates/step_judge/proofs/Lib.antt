-- What the proofs of several functions use.
pub mod Settled
pub mod Judging
