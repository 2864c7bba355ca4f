-- What the proofs share.
pub mod Opening
pub mod Closing
