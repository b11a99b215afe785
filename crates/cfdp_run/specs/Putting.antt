-- What the lines `put` of a script make of the filestore with which it begins.
--     missing F p             the parents of a path at which nothing exists, shortest first
--     with_parents W p        they are made directories
--     with_put W p node       they are, and then the directory or file is put at the path
--     is_below_file F p       one of the parents is a file
--     needed F p node         the blocks that are taken: one for each directory that is made, and those of the
--                             directory or file
--     path_wrong F p          why nothing can be put at a path, whatever it is
--     room_wrong W p node     why this directory or file can't be put there
use Rattle.std.specs.Prelude.{ℕ, ◌+◌, nat_lt, Bool, if◌then◌else◌, is_some, is_none, List, map, length, Option, Some, None}
use Rattle.std.specs.List.{filter, list_any}
use Rattle.cfdp_paths.specs.Paths.{Path, ancestors}
use Rattle.cfdp_actions.specs.Filestore.{Node, Directory, Filestore, node_at, is_file, weight}
use Rattle.cfdp_transactions.specs.World.{World, free}
use Rattle.cfdp_transactions.specs.Beginning.{with_node}
use Rattle.cfdp_transactions.specs.Restart.{put_all}
use Rattle.cfdp_run.specs.declared.wrong.Wrong.{Wrong}
use Rattle.cfdp_run.specs.declared.wrong.Wrong.TheVariants.{Taken, ParentIsFile, NoRoom}

abbrev pub missing : Filestore → Path → List Path
missing F p = filter (λ q. is_none (node_at F q)) (ancestors p)

abbrev pub as_directory : Path → Path × Node
as_directory q = (q, Directory)

abbrev pub with_parents : World → Path → World
with_parents W p = put_all W (map as_directory (missing W.filestore p))

abbrev pub with_put : World → Path → Node → World
with_put W p node = with_node (with_parents W p) p node

abbrev pub is_below_file : Filestore → Path → Bool
is_below_file F p = list_any (λ q. is_file (node_at F q)) (ancestors p)

abbrev pub needed : Filestore → Path → Node → ℕ
needed F p node = length (missing F p) + weight (Some node)

abbrev pub path_wrong : Filestore → Path → Option Wrong
path_wrong F p = if is_some (node_at F p) then Some Taken else if is_below_file F p then Some ParentIsFile else None

abbrev pub room_wrong : World → Path → Node → Option Wrong
room_wrong W p node = if nat_lt (free W) (needed W.filestore p node) then Some NoRoom else None
