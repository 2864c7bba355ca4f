-- What the proofs of this crate and of the walkers share.
pub mod Laws
