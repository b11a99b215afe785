pub mod Adapters
pub mod Streams
pub mod code
