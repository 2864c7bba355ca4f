-- What the contracts cite beside the rules and the log.
pub mod Answers
