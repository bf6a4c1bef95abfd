pub mod Turning
pub mod Ways
pub mod Accepted
pub mod Numbers
pub mod Twelve
pub mod Handed
