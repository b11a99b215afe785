-- The nodes of the tree: their blocks, their ways to the root, and what a change of one does.
pub mod OneBlockLaws
pub mod NodeLaws
pub mod NodeFieldLaws
pub mod TreeLaws
pub mod EntryLaws
pub mod WriteLaws
pub mod LinkLaws
pub mod ClimbLaws
pub mod AddLaws
pub mod RemoveLaws
pub mod BelowLaws
pub mod MoveLaws
pub mod TextLaws
pub mod AloneLaws
pub mod NamesLeft
pub mod ParentLaws
pub mod RootedLaws
