-- What the proofs of several functions use.
pub mod Laws
pub mod Opening
pub mod Resolving
pub mod Closing
