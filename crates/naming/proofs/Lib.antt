-- What is proved of no one function.
pub mod Words
pub mod Places
pub mod Named
