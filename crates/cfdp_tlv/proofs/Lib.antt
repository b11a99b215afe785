pub mod Steps
pub mod Fields
pub mod NameFields
pub mod Requests
pub mod Responses
