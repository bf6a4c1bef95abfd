-- The modules of `proofs/` that belong to no one function.
pub mod Laying
pub mod Many
