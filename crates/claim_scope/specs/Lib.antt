-- Lexical scoping, the errors that it gives, and the walk over an output.
pub mod Scope
pub mod StaticCheck
pub mod Judgement
pub mod Checked
