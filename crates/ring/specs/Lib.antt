pub mod Ring
pub mod Inside
