pub mod Follows
pub mod Heads
pub mod Lines
pub mod Loops
pub mod Puts
pub mod Remakes
pub mod Spelling
