pub mod Branches
pub mod code
