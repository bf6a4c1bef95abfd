pub mod After
pub mod Finite
pub mod Turns
pub mod Valued
