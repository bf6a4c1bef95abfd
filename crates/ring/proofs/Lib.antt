pub mod Tap
pub mod Slots
pub mod Adding
pub mod Summing
pub mod Moving
pub mod Only
pub mod Kept
