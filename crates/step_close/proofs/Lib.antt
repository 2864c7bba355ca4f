-- What the proofs of several functions use.
pub mod Forgetting
pub mod Finishing
pub mod Behind
pub mod Functions
