-- What the proofs of several functions use.
pub mod Laws
pub mod Binding
pub mod Turns
pub mod Leaves
pub mod Definition
pub mod Walks
pub mod Whole
