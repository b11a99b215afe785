pub mod Codes
pub mod Transaction
