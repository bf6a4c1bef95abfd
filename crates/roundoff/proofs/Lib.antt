pub mod Multiples
pub mod Errors
pub mod TwoSum
pub mod Product
pub mod Halving
pub mod Settled
pub mod Tried
