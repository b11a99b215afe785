pub mod OfRuns
pub mod OfNodes
pub mod OfStore
pub mod OfIndex
pub mod OfWalks
pub mod OfOrders
