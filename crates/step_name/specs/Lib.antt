-- What the contracts cite beside the rules.
pub mod Slots
pub mod Answers
