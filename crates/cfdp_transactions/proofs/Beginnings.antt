-- The worlds with which a run begins, and what is put into the filestore before it.
pub mod Starting
pub mod PutThere
pub mod PutBack
pub mod StartWhole
