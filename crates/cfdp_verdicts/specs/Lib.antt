pub mod Words
pub mod Costs
pub mod Tables
