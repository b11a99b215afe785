-- What only the proofs of the code need: no clause of a public function cites it.
--     Block        what a block of the arena says of itself, and its payload
--     Runs         runs of blocks, and the octets that they hold
--     Frames       what stays as it was where octets of a run are written, or others are held
--     Ways         the ways back in runs, by which their blocks are found
--     Contents     the octets of a file or of a staged list, which are in a run
--     NodeFields   a node: what is at one path, and its links
--     Nodes        the nodes of an arena alone
--     Tree         the tree that they make
--     Directories  directories and the root
--     Lists        lists of nodes by links
--     Index        nodes by their directory and their name
--     Entries      the entries of a directory and of the root
--     Kept         the store that an arena is
--     Slots        its staged lists
--     Changes      what is made
--     Walk         walks over what is below a node or the root, in path order
--     NodesBelow   the nodes of what is there
--     Beside       the entries of a directory but for some of them
--     Text         the octets of a path
--     Orders       the entries of a directory and of the root, in order of their names
pub mod Beside
pub mod Block
pub mod Changes
pub mod Contents
pub mod Entries
pub mod Files
pub mod Frames
pub mod Index
pub mod Kept
pub mod Lists
pub mod Next
pub mod Nodes
pub mod Orders
pub mod Directories
pub mod NodeFields
pub mod Runs
pub mod Slots
pub mod NodesBelow
pub mod Text
pub mod Tree
pub mod Walk
pub mod Ways
