pub mod Points
pub mod Grid
