-- What a view has of a filestore: kinds and sizes, without octets.
--     most_octets                                the greatest u64, at which sizes stop
--     Extent, extent_of, extent_in, extent_at    a directory, or a file of at most this many octets: of a node, of what
--                                                is at a path
--     Extents                                    a finite map from paths to extents
--     makes_path request                         whether the request may make a path: the actions that take memory
use Rattle.std.specs.Prelude.{ℕ, min, Bool, true, false, Option, Some, None, length}
use Rattle.std.specs.FinMap as finite
use Rattle.cfdp_paths.specs.Paths.{Path, path_cmp}
use Rattle.cfdp_actions.specs.Filestore.{Node, Directory, File, Filestore, node_at}
use Rattle.cfdp_actions.specs.Actions.{Request, CreateFile, RenameFile, CreateDirectory}
use Rattle.cfdp_states.specs.declared.extent.Extent.{Extent}
use Rattle.cfdp_states.specs.declared.extent.Extent.TheVariants as extent

-- the greatest u64
abbrev pub most_octets : ℕ
most_octets = 18446744073709551615

abbrev pub extent_of : Node → Extent
extent_of Directory = extent.Directory
extent_of (File octets) = extent.File (min (length octets) most_octets)

abbrev pub extent_in : Option Node → Option Extent
extent_in None = None
extent_in (Some node) = Some (extent_of node)

abbrev pub extent_at : Filestore → Path → Option Extent
extent_at F p = extent_in (node_at F p)

-- what is at some paths
abbrev pub Extents : Type 0
Extents = finite.FinMap path_cmp Extent

-- whether it may make a path
abbrev pub makes_path : Request → Bool
makes_path (CreateFile p) = true
makes_path (CreateDirectory p) = true
makes_path (RenameFile p q) = true
makes_path _ = false
