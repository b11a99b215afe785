-- The lists of the index by which a node is found.
pub mod IndexLaws
pub mod HeadLaws
pub mod InsertLaws
pub mod CutLaws
pub mod UnlistLaws
pub mod OutLaws
