pub mod Turns
pub mod Parts
pub mod Samples
