pub mod Rows
pub mod Cases
pub mod Turns
