pub mod Carrying
pub mod Fit
pub mod Steps
pub mod KnownFiles
