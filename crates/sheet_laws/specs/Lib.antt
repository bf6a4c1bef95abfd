-- The words in which the laws are stated.
pub mod Words
pub mod FirstBad
pub mod Example
