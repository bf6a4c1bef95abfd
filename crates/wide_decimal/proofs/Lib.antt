-- The modules of `proofs/` that belong to no one function.
pub mod Digits
pub mod Edges
pub mod Enough
pub mod Leading
pub mod Nears
pub mod Zeros
pub mod Placing
pub mod Powers
pub mod Steps
pub mod Texts
pub mod Truths
pub mod Worth
