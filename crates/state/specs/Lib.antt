-- What the contracts of the steps cite beside the rules.
pub mod Seen
pub mod Walks
