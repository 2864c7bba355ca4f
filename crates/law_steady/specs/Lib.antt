-- What the analysis of a part of the tree leaves as it was.
pub mod Steady
pub mod Passed
