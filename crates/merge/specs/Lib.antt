pub mod Sum
pub mod Join
pub mod Taking
pub mod Work
pub mod Keep
pub mod Next
