-- What is proved of no one function.
pub mod Order
pub mod Done
pub mod Lengths
