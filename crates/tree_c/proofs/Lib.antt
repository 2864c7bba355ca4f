-- What the proof uses.
pub mod Laws
