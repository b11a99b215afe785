pub mod Finding
pub mod Seeking
pub mod Descending
pub mod Levels
pub mod Changing
pub mod Opening
pub mod Pruning
