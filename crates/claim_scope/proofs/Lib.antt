-- What ties lexical scoping and its errors to the rules.
pub mod Finding
pub mod Telling
pub mod Steps
pub mod Defining
pub mod Fitting
pub mod Walking
pub mod StaticCheck
pub mod Judgement
pub mod Letter
pub mod Reading
pub mod Accepted
pub mod CheckedCases
