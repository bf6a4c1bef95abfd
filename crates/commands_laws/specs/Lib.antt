pub mod Words
pub mod Sound
pub mod Apart
