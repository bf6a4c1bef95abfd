pub mod Fused
pub mod Between
pub mod Turns
pub mod Adding
pub mod Stepping
pub mod Starts
pub mod Standing
pub mod First
