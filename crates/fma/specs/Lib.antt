-- The definitions that the contracts cite.
pub mod Fused
pub mod Words
pub mod Sticky
pub mod Significand
pub mod Pack
pub mod Aligned
