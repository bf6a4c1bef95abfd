pub mod Phases
pub mod Judged
