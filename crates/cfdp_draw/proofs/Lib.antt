pub mod Gaining
pub mod Harmless
pub mod AxisPositions
pub mod Texts
