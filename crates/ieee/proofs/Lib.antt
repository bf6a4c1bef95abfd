pub mod Bits
pub mod Comparing
pub mod Fractions
pub mod Ceiling
pub mod Powers
pub mod Cutting
pub mod Digits
