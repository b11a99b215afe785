pub mod Reading
pub mod Spelling
pub mod Laws
pub mod Texts
