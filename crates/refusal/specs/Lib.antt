-- What the contracts of those that refuse cite.
pub mod Meaning
