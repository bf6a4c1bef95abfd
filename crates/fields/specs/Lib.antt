-- The definitions that the contracts cite.
pub mod Value
pub mod Words
