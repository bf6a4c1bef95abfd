pub mod Sizes
pub mod Fitting
pub mod Scanning
pub mod Pushing
pub mod Faults
pub mod Laws
