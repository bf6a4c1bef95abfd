-- The modules of `proofs/` that belong to no one function.
pub mod Listing
