-- The user's demands, each from the contract of `analyze`.
pub mod Demands
