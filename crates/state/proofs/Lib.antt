-- What the proofs of the steps share.
pub mod Changing
pub mod Fitting
