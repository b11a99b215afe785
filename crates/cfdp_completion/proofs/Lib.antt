pub mod FileKept
pub mod Arriving
pub mod Ordering
pub mod Reading
