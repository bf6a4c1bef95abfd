pub mod Spline
pub mod Value
pub mod Row
pub mod Same
pub mod Walk
