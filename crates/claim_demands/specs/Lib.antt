-- What the user asked of a call.
pub mod Demands
