-- The definitions that the contracts cite.
pub mod Figures
pub mod Limbs
pub mod Near
pub mod Placed
pub mod Told
