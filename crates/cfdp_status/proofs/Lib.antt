pub mod Octets
pub mod Appended
pub mod Options
pub mod Choices
