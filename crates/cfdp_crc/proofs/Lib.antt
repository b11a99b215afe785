pub mod SealedBuffer
pub mod Tabulating
pub mod Dividing
pub mod Noticing
pub mod AddedAndTaken
