pub mod Lengths
pub mod Ranges
pub mod ReadingBack
