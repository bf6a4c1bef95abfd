pub mod Parting
pub mod Answer
pub mod Settles
