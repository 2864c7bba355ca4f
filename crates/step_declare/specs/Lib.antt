-- What the contracts cite beside the rules.
pub mod Defined
pub mod Answers
