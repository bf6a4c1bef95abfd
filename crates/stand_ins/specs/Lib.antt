pub mod StandIns
pub mod Whole
pub mod ByValue
pub mod Texts
pub mod Buffers
pub mod Inputs
pub mod Table
