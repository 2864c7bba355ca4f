-- What the proofs of several functions use.
pub mod Going
pub mod Reading
pub mod Binding
pub mod Heads
