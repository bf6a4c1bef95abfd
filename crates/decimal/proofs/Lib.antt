-- The modules of `proofs/` that belong to no one function.
pub mod Back
pub mod Cutting
pub mod Examples
pub mod Figures
pub mod Hexing
pub mod Marks
pub mod Moving
pub mod Places
pub mod Pointing
pub mod Powers
pub mod Reading
pub mod Twos
