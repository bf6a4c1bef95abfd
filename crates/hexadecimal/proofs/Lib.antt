-- The modules of `proofs/` that belong to no one function.
pub mod Back
pub mod Digits
pub mod Number
