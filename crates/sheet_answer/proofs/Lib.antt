pub mod Decimal
pub mod Answering
pub mod Laws
