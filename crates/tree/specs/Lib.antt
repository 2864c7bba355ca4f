-- What the contracts cite beside the rules.
pub mod Seen
pub mod Places
pub mod Left
