pub mod Osc
