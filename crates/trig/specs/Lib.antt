pub mod Reduce
pub mod Trig
pub mod Series
