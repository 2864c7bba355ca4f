-- What the proof of the entry and of its caller use.
pub mod Laws
