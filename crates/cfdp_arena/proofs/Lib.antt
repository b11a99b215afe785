pub mod Chains
pub mod GivenChains
pub mod Heap
pub mod Laws
pub mod Made
pub mod RegionBlocks
pub mod Sharing
pub mod Steps
