pub mod Judging
pub mod Offset
pub mod Refusals
