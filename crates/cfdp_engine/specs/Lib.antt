pub mod Journal
pub mod Seats
pub mod Sharing
pub mod Working
pub mod code
