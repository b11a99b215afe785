pub mod Names
pub mod Style
pub mod Codes
pub mod Shown
