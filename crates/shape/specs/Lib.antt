pub mod Hann
pub mod Segment
pub mod Parts
pub mod Envelope
