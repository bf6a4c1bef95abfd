pub mod Refusal
pub mod Complex
pub mod Aligned
pub mod Settings
pub mod Phaser
