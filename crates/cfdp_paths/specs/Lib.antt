pub mod Paths
pub mod Faults
pub mod Hashes
pub mod Laws
pub mod Words
pub mod PathMaps
pub mod code
