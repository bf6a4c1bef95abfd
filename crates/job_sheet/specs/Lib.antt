-- The definitions that the contracts cite.
pub mod First
pub mod Inset
