-- What the contracts of the walkers cite beside the rules.
pub mod Run
pub mod Steps
