pub mod Ring
pub mod Totals
pub mod Wholes
pub mod Convolution
pub mod Calls
pub mod OneTap
pub mod Doubled
