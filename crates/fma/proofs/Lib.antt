-- What is proved of no one function.
pub mod Words
pub mod StickyBit
pub mod Shifting
pub mod Leading
pub mod Quarters
pub mod Packing
pub mod Rounds
pub mod Standing
pub mod Aligning
pub mod Fusing
