-- Footprints: the paths that a list of items may change or relies on; what a footprint covers, when two conflict, and
-- when a filestore is kept at one. The filestore procedures of CCSDS 727.0-B-5 let filestore requests of several
-- transactions meet on one filestore; leasing their paths beforehand is this project's own.
--     exclusive_in, read_in, named_in, shared_in   of one item: the paths that it changes;  that it only reads;  both;
--                                        those that it only reads and all proper ancestors of both
--     PathSet, any_in                    a finite set of paths;  whether one of them passes a test
--     Footprint, footprint_of            the exclusive and the shared paths;  of a list of items
--     leased                             both kinds together
--     is_exclusive, is_shared, is_covered, covers      how a footprint holds a path: at or below an exclusive one, else
--                                                      as a shared one
--     reaches A B, is_conflict A B       an exclusive path of A has a leased one of B at or below it;  either way round
--     IsWithin fp item                   the footprint has the item's paths, as the item's own footprint does
--     Keeps F G fp                       the filestores agree at each covered path
use Rattle.std.specs.Prelude.{◌≡◌, Bool, if◌then◌else◌, ◌||◌, IsTrue, List, [], ◌∷◌, ◌++◌, Option, Some, None, flat_map}
use Rattle.std.specs.List.{list_any, AllByRecursion}
use Rattle.std.specs.FinSet as set
use Rattle.cfdp_paths.specs.Paths.{Path, path_cmp, is_at_or_below, ancestors}
use Rattle.cfdp_actions.specs.Filestore.{Filestore, node_at}
use Rattle.cfdp_actions.specs.Actions.{Item, Install, Perform, CreateFile, DeleteFile, RenameFile, AppendFile, ReplaceFile, CreateDirectory, RemoveDirectory, DenyFile, DenyDirectory}
use Rattle.cfdp_leases.specs.declared.lease.Lease.{Lease}
use Rattle.cfdp_leases.specs.declared.lease.Lease.TheVariants.{Exclusive, Shared}

-- the names that are changed
abbrev pub exclusive_in : Item → List Path
exclusive_in (Install p) = p ∷ []
exclusive_in (Perform (CreateFile p)) = p ∷ []
exclusive_in (Perform (DeleteFile p)) = p ∷ []
exclusive_in (Perform (RenameFile p q)) = p ∷ q ∷ []
exclusive_in (Perform (AppendFile p q)) = p ∷ []
exclusive_in (Perform (ReplaceFile p q)) = p ∷ []
exclusive_in (Perform (CreateDirectory p)) = p ∷ []
exclusive_in (Perform (RemoveDirectory p)) = p ∷ []
exclusive_in (Perform (DenyFile p)) = p ∷ []
exclusive_in (Perform (DenyDirectory p)) = p ∷ []

-- the names that are only read
abbrev pub read_in : Item → List Path
read_in (Perform (AppendFile p q)) = q ∷ []
read_in (Perform (ReplaceFile p q)) = q ∷ []
read_in item = []

abbrev pub named_in : Item → List Path
named_in item = exclusive_in item ++ read_in item

-- what is only read, and the proper ancestors of all named paths
abbrev pub shared_in : Item → List Path
shared_in item = read_in item ++ flat_map ancestors (named_in item)

-- a finite set of paths
abbrev pub PathSet : Type 0
PathSet = set.FinSet path_cmp

abbrev pub any_in : PathSet → (Path → Bool) → Bool
any_in paths test = list_any test (set.items paths)

pub record Footprint : Type 0 where
  pub exclusive : PathSet
  pub shared : PathSet

abbrev pub footprint_of : List Item → Footprint
footprint_of items =
    record {
      exclusive = set.from_list (flat_map exclusive_in items);
      shared = set.from_list (flat_map shared_in items);
    }

abbrev pub leased : Footprint → PathSet
leased fp = set.union fp.exclusive fp.shared

abbrev pub is_exclusive : Footprint → Path → Bool
is_exclusive fp p = any_in fp.exclusive (λ e. is_at_or_below p e)

abbrev pub is_shared : Footprint → Path → Bool
is_shared fp p = set.contains fp.shared p

abbrev pub is_covered : Footprint → Path → Bool
is_covered fp p = is_exclusive fp p || is_shared fp p

abbrev pub covers : Footprint → Path → Option Lease
covers fp p = if is_exclusive fp p then Some Exclusive else if is_shared fp p then Some Shared else None

-- an exclusive path of A has a leased path of B at or below it
abbrev pub reaches : Footprint → Footprint → Bool
reaches A B = any_in A.exclusive (λ e. any_in (leased B) (λ l. is_at_or_below l e))

abbrev pub is_conflict : Footprint → Footprint → Bool
is_conflict A B = reaches A B || reaches B A

-- the footprint covers what the item names, as the item's own footprint does
pub record IsWithin (fp : Footprint) (item : Item) : Type 0 where
  pub exclusive : AllByRecursion (λ p. IsTrue (is_exclusive fp p)) (exclusive_in item)
  pub shared : AllByRecursion (λ p. IsTrue (is_covered fp p)) (shared_in item)

-- whatever the footprint covers is the same in both; two directories are, whatever is in them
abbrev pub Keeps : Filestore → Filestore → Footprint → Type 0
Keeps F G fp = (p : Path) → IsTrue (is_covered fp p) → node_at F p ≡ node_at G p
