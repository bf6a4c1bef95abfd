pub mod Envelope
pub mod Bin
pub mod Weight
pub mod List
pub mod Sorted
