pub mod Exact
pub mod Call
pub mod Example
