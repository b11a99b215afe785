-- What comes next after a path in path order, which is in the filestore or not.
--     IsNext F p q              q is in the filestore after p, and no path that is there is between the two
--     IsLast F p                no path that is in the filestore is after p
--     IsNextEntry F p octets entry    the octets spell the path that is next, and the entry says what is there
use Rattle.std.specs.Prelude.{◌≡◌, ◌≢◌, ℕ, List, length, Some, IsSome}
use Rattle.std.specs.declared.cmp.Ordering.TheVariants.{Less, Greater}
use Rattle.cfdp_checksum.specs.Checksum.{checksum}
use Rattle.cfdp_paths.specs.Paths.{Path, IsPath, path_cmp, joined}
use Rattle.cfdp_actions.specs.Filestore.{Node, Filestore, node_at, octets_in}
use Rattle.cfdp_actions.specs.Store.{kind_of}
use Rattle.cfdp_tree.specs.declared.next.NextEntry.{NextEntry}

pub record IsNext (F : Filestore) (p q : Path) : Type 0 where
  pub exists : IsSome (node_at F q)
  pub following : path_cmp p q ≡ Less
  pub least : (r : Path) → IsSome (node_at F r) → path_cmp p r ≡ Less → path_cmp q r ≢ Greater

abbrev pub IsLast : Filestore → Path → Type 0
IsLast F p = (r : Path) → IsSome (node_at F r) → path_cmp p r ≢ Less

-- a directory's size and checksum are 0
pub record IsNextEntry (F : Filestore) (p : Path) (octets : List ℕ) (entry : NextEntry) : Type 0 where
  pub path : Path
  pub node : Node
  pub there : node_at F path ≡ Some node
  pub is_next : IsNext F p path
  pub good : IsPath path
  pub spelled : octets ≡ joined path
  pub kind : entry.kind ≡ kind_of node
  pub size : entry.size ≡ length (octets_in (Some node))
  pub checksum : entry.checksum ≡ checksum (octets_in (Some node))
