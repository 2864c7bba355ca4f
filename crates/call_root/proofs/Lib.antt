-- What the proofs of several functions use, and what the entry will.
pub mod Laws
pub mod Beginning
pub mod Whole
pub mod Entry
