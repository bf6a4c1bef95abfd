pub mod Finite
pub mod Ceiling
pub mod Fraction
pub mod Exp2
pub mod Cut
