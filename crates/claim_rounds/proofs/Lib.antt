-- What is shown of the settlings of a run.
pub mod Later
pub mod Steps
pub mod Framed
pub mod Begun
pub mod Traced
pub mod Walking
pub mod Rounds
pub mod WorkedSettlings
