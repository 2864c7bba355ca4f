-- What the proofs of several functions use.
pub mod Finding
pub mod Defining
