-- What a program prints for a sheet.
pub mod Answer
