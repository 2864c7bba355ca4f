-- What the contracts cite beside the rules.
pub mod Meaning
pub mod Changed
