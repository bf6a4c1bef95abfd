-- The definitions that the contracts cite.
pub mod Digits
pub mod Number
pub mod Ways
