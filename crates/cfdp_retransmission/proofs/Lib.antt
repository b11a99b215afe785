pub mod Waiting
pub mod Sequences
pub mod Arriving
pub mod Losing
pub mod Hearing
