pub mod Names
pub mod Requests
pub mod Lines
pub mod Texts
pub mod Laws
