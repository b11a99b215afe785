pub mod Filestore
pub mod Actions
pub mod Store
pub mod Prefixes
pub mod Performing
pub mod Listed
pub mod Refusals
pub mod code
