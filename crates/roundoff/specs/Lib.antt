pub mod Roundoff
