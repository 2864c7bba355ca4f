-- The walk over an output, what lexical scoping says is read, and the statement that both are one.
pub mod Lexical
pub mod Unread
pub mod Decode
pub mod Reach
pub mod Trials
