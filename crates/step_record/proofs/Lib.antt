-- What the proofs of several functions use.
pub mod Recording
pub mod Functions
