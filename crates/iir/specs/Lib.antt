pub mod Section
pub mod Filter
pub mod Flight
pub mod Iir
pub mod A0
pub mod Alike
