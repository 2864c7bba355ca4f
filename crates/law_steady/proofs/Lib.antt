-- What is shown of the rules' analysis.
pub mod Keeping
pub mod Steps
pub mod Steady
pub mod Weighing
pub mod Places
