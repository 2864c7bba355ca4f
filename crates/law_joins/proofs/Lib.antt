-- What the walkers' proofs rest on.
pub mod Joining
pub mod Constructs
pub mod Readiness
pub mod Turns
pub mod Returns
pub mod Onward
pub mod Asking
pub mod Stages
