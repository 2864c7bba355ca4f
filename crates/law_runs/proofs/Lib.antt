-- What is shown of the analysis from a place of the bytes.
pub mod Binding
pub mod Records
pub mod Lists
pub mod Reading
pub mod Expressions
pub mod Holders
