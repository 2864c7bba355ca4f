-- What the contracts cite beside the rules.
pub mod Meaning
pub mod Kept
pub mod Answers
