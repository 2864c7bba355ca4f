-- What the proofs share.
pub mod Slots
pub mod Using
