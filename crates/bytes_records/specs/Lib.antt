-- What the contracts cite beside the rules.
pub mod Marks
pub mod Constants
