pub mod Arena
pub mod Blocks
pub mod Chain
pub mod FreeList
pub mod Lending
pub mod Ownership
pub mod code
