pub mod Footprint
pub mod Items
pub mod Leases
pub mod Laws
pub mod code
