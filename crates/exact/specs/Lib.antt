pub mod Value
pub mod Near
pub mod Signed
pub mod Rounds
pub mod Doubles
pub mod Among
