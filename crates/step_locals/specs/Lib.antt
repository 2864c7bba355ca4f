-- What the contracts cite beside the rules.
pub mod Answers
