pub mod Disturbing
pub mod Laws
pub mod code
