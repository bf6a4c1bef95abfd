pub mod System
pub mod Said
pub mod Kept
