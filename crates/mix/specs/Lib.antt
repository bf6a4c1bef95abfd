pub mod Part
pub mod Plateau
pub mod Envelope
