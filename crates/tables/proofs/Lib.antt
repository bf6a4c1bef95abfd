pub mod Sizes
pub mod Finding
pub mod Laws
