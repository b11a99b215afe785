pub mod Sessions
pub mod Steps
pub mod code
