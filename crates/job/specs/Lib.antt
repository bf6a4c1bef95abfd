-- The definitions that the contracts cite.
pub mod Command
pub mod Given
pub mod Keys
pub mod Line
pub mod List
pub mod Turn
