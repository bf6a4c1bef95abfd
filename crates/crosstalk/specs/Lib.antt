pub mod Crosstalk
pub mod Faults
