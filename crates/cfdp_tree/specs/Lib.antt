-- The filestore inside an arena, from the lowest layer up.
--     Next         what comes next in path order
--     Found        what is said of a path, and copied of a file
pub mod Found
pub mod Next
pub mod code
