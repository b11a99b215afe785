pub mod Streaming
