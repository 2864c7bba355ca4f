-- What the proofs of several functions use.
pub mod Defining
pub mod Reading
pub mod Turns
