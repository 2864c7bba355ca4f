-- What the proofs of the call use.
pub mod Laws
