-- Worked cases at the limit of nesting.
pub mod Nested
