pub mod Numbers
pub mod Call
pub mod Pulses
pub mod Steps
pub mod Line
pub mod Table
