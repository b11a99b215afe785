pub mod Alone
pub mod Laws
pub mod Sketching
pub mod Sparse
pub mod Views
pub mod code
