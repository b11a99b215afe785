-- Runs of blocks, and the octets in them.
pub mod OctetsInLists
pub mod BlockLaws
pub mod RunLaws
pub mod HeldLaws
pub mod WriteLaws
pub mod FrontLaws
pub mod GrowLaws
pub mod BegunLaws
pub mod SpareLaws
pub mod WayLaws
pub mod Filling
pub mod ContentsLaws
pub mod CopiedLaws
pub mod SummingLaws
