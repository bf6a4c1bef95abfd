pub mod Command
pub mod Step
pub mod Play
pub mod Run
