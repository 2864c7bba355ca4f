-- The settlings of a run.
pub mod Settlings
