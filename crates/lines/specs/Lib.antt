-- The definitions that the contracts cite.
pub mod Field
pub mod Text
