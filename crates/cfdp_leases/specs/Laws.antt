-- What is true of footprints and of the action table, whatever the code does.
--     HasNames, CommonPath, ConflictByPaths      when the footprints of two lists conflict
--     OwnFootprint                               a list's footprint has all paths of its items
--     IsAlike fp slot F G                        the transaction of the footprint and the slot cannot distinguish F and
--                                                G apart
--     FrameOfReads                               a row reads only what the footprint covers
--     IsOwn fp slot change, OwnChanges           each change of a row is at an exclusive path or in the slot
--     FrameOfChanges, Isolation                  so nothing else changes, and no footprint without a conflict is
--                                                touched
--     StaysRooted, Growth, WithinBound           what a row does to directories and to the blocks in use, and how long
--                                                it takes
--     KeysArePaths F, NamesPaths item            each key of the filestore, or each name of the item, is a path within
--                                                the limits
--     KeysStayPaths                              a row of such an item keeps the keys so
use Rattle.std.specs.Prelude.{◌≡◌, ◌≢◌, ℕ, ◌+◌, ◌≤◌, ◌<◌, ◌||◌, IsTrue, IsFalse, IsSome, List, [], ◌++◌, ◌↔◌, length}
use Rattle.std.specs.List.{AllByRecursion}
use Rattle.std.specs.FinSet as set
use Rattle.cfdp_paths.specs.Paths.{Path, IsPath}
use Rattle.cfdp_actions.specs.Filestore.{Filestore, node_at, staged_in, blocks, Change, Becomes, Stages, IsRooted}
use Rattle.cfdp_actions.specs.Actions.{Item, ticks, row}
use Rattle.cfdp_leases.specs.Items.{performed, step_bound}
use Rattle.cfdp_leases.specs.Footprint.{exclusive_in, read_in, Footprint, footprint_of, leased, is_exclusive, is_conflict, IsWithin, Keeps}

-- no name of the item is the root
abbrev pub HasNames : Item → Type 0
HasNames item = AllByRecursion (λ p. p ≢ []) (exclusive_in item ++ read_in item)

-- a path is in both, and is exclusive in at least one
abbrev pub CommonPath : Footprint → Footprint → Type 0
CommonPath A B =
    (p : Path) × IsTrue (set.contains (leased A) p) × IsTrue (set.contains (leased B) p)
    × IsTrue (set.contains A.exclusive p || set.contains B.exclusive p)

-- two lists' footprints conflict exactly where a path is in both and is exclusive in at least one
abbrev pub ConflictByPaths : Type 0
ConflictByPaths =
    (items others : List Item) → AllByRecursion HasNames items → AllByRecursion HasNames others →
    IsTrue (is_conflict (footprint_of items) (footprint_of others))
    ↔ CommonPath (footprint_of items) (footprint_of others)

-- a list's own footprint has all paths of its items
abbrev pub OwnFootprint : Type 0
OwnFootprint = (items : List Item) → AllByRecursion (IsWithin (footprint_of items)) items

pub record IsAlike (fp : Footprint) (slot : ℕ) (F G : Filestore) : Type 0 where
  pub kept : Keeps F G fp
  pub staged : staged_in F slot ≡ staged_in G slot

-- a row reads only what the footprint covers
abbrev pub FrameOfReads : Type 0
FrameOfReads =
    (prefixes : List Path) (fp : Footprint) (F G : Filestore) (slot : ℕ) (item : Item) → IsAlike fp slot F G →
    IsWithin fp item →
    (row prefixes F slot item ≡ row prefixes G slot item) × (step_bound F item ≡ step_bound G item)

-- the change is to an exclusive path, or in the slot
abbrev pub IsOwn : Footprint → ℕ → Change → Type 0
IsOwn fp slot (Becomes p _) = IsTrue (is_exclusive fp p)
IsOwn fp slot (Stages other octets) = other ≡ slot

-- each change of a row is at an exclusive path, or in the slot
abbrev pub OwnChanges : Type 0
OwnChanges =
    (prefixes : List Path) (fp : Footprint) (F : Filestore) (slot : ℕ) (item : Item) → IsWithin fp item →
    AllByRecursion (IsOwn fp slot) (row prefixes F slot item).changes

-- so a row changes only what is exclusive
abbrev pub FrameOfChanges : Type 0
FrameOfChanges =
    (prefixes : List Path) (fp : Footprint) (F : Filestore) (slot : ℕ) (item : Item) (q : Path) → IsWithin fp item →
    IsFalse (is_exclusive fp q) →
    node_at (performed prefixes F slot item) q ≡ node_at F q

-- so it keeps each footprint that does not conflict with its own
abbrev pub Isolation : Type 0
Isolation =
    (prefixes : List Path) (A B : Footprint) (F : Filestore) (slot : ℕ) (item : Item) → IsWithin A item →
    IsFalse (is_conflict A B) →
    Keeps F (performed prefixes F slot item) B

-- each path's parent stays the root or a directory
abbrev pub StaysRooted : Type 0
StaysRooted = (prefixes : List Path) (F : Filestore) (slot : ℕ) (item : Item) → IsRooted F →
    IsRooted (performed prefixes F slot item)

-- the blocks in use after a row: those before, with those taken and without those given back
abbrev pub Growth : Type 0
Growth =
    (prefixes : List Path) (F : Filestore) (slot : ℕ) (item : Item) → IsRooted F → slot < length F.staged →
    blocks (performed prefixes F slot item) + (row prefixes F slot item).given ≡ blocks F
    + (row prefixes F slot item).taken

-- a row takes no more ticks than its bound
abbrev pub WithinBound : Type 0
WithinBound =
    (prefixes : List Path) (F : Filestore) (slot : ℕ) (item : Item) →
    ticks (row prefixes F slot item) ≤ step_bound F item

-- each key is a path: something is only at 1 to 8 names, each within the limits
abbrev pub KeysArePaths : Filestore → Type 0
KeysArePaths F = (p : Path) → IsSome (node_at F p) → IsPath p

-- each name of the item is a path
abbrev pub NamesPaths : Item → Type 0
NamesPaths item = AllByRecursion IsPath (exclusive_in item ++ read_in item)

-- each key stays a path, also where a directory moves with all below it
abbrev pub KeysStayPaths : Type 0
KeysStayPaths =
    (prefixes : List Path) (F : Filestore) (slot : ℕ) (item : Item) → NamesPaths item → KeysArePaths F →
    KeysArePaths (performed prefixes F slot item)
