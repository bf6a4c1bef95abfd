-- What is proved of no one function.
pub mod Over
pub mod Kept
pub mod Turns
pub mod Spans
pub mod Lists
pub mod Back
pub mod Twice
pub mod Next
pub mod Scaled
