pub mod Added
pub mod Outside
pub mod Calls
pub mod Own
