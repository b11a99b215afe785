pub mod Sessions
pub mod Closed
pub mod code
