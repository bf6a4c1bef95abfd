-- What is proved of no one function.
pub mod Order
pub mod Place
pub mod Placed
pub mod Rows
pub mod Sorted
pub mod Stored
