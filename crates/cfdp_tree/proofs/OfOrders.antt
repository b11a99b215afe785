-- The entries of a directory in order of their names.
pub mod LeastLaws
pub mod SortLaws
pub mod OrderLaws
pub mod OrderedLaws
pub mod NextLaws
