-- What only the proofs of the code need of `Sketching`.
--     extent_content, extent_weight              the blocks of an extent's octets;  one more for itself
--     content_blocks, weight_in                  of what is at a path
--     size_in, resized p octets m                the octets of a file;  the map with a file of this many octets where
--                                                anything exists
--     total_weight, total_blocks                 the blocks of all entries together;  of all that the map has
--     AreSmall, IsCounted es used                no extent has more blocks than a u64 of octets;  the entries are in
--                                                order, and their blocks are counted
--     rehomed p q m                              the map once each p/r is at q/r
--     bound_on m item                            how many ticks an item may take
--     is_folder, good_among, good_parent         whether the root or a directory is at a path, or at its parent
--     IsOutline m F                              the map says what is in F
--     Does, Performs                             a map goes on as the row of a request;  and as the row with protected
--                                                prefixes
--     DoesOrNot, PerformsOrNot                   or there was no memory to make a path, though it would be successful,
--                                                and it is as before
--     gives_way, can_install                     whether a file may be put where this is, or at a path
--     extent_of_existing, added ss m             what a store says that is at a path;  the map with all of these
--     AddsWhere test F m m'                      the map with what is in F at the paths that pass the test
--     IsSurvey m test F                          the map says what is in F at these paths, and no more
use Rattle.std.specs.Prelude.{◌≡◌, ℕ, ◌+◌, ◌≤◌, ◌^◌, Bool, true, false, not, ◌&&◌, is_some, IsTrue, if◌then◌else◌, List, [], ◌∷◌, Option, Some, None, Result, Ok, Err}
use Rattle.std.specs.FinMap as finite
use Rattle.cfdp_paths.specs.Paths.{Path, path_cmp, parent}
use Rattle.cfdp_paths.specs.PathMaps.{IsOrdered, tree_in, rest_in, moved_to, puts}
use Rattle.std.specs.declared.alloc.AllocError.{AllocError}
use Rattle.cfdp_status.specs.declared.status.Status.{Status}
use Rattle.cfdp_actions.specs.Filestore.{Filestore, blocks_of, after}
use Rattle.cfdp_actions.specs.Actions.{Request, Item, Perform, Performed, succeeded, is_protected, table, row}
use Rattle.cfdp_actions.specs.Store.{is_file_kind}
use Rattle.cfdp_actions.specs.declared.kind.ExistingNode.{ExistingNode}
use Rattle.cfdp_leases.specs.Items.{performed, bound_by}
use Rattle.cfdp_states.specs.declared.extent.Extent.{Extent}
use Rattle.cfdp_states.specs.declared.extent.Extent.TheVariants as extent
use Rattle.cfdp_states.specs.Sketching.{extent_at, Extents, makes_path}

abbrev pub extent_content : Extent → ℕ
extent_content extent.Directory = 0
extent_content (extent.File octets) = blocks_of octets

abbrev pub extent_weight : Extent → ℕ
extent_weight e = 1 + extent_content e

-- the blocks of the octets of what is at a path, and all its blocks
abbrev pub content_blocks : Option Extent → ℕ
content_blocks None = 0
content_blocks (Some e) = extent_content e

abbrev pub weight_in : Option Extent → ℕ
weight_in None = 0
weight_in (Some e) = extent_weight e

-- the most octets of a file, 0 where there is none
abbrev pub size_in : Option Extent → ℕ
size_in None = 0
size_in (Some extent.Directory) = 0
size_in (Some (extent.File octets)) = octets

-- what is at p, if anything is there, is a file of this many octets
abbrev pub resized : Path → ℕ → Extents → Extents
resized p octets m = if is_some (finite.get m p) then finite.insert m p (extent.File octets) else m

-- the blocks of all together
abbrev pub total_weight : List (Path × Extent) → ℕ
total_weight [] = 0
total_weight (e ∷ es) = extent_weight e.1 + total_weight es

abbrev pub total_blocks : Extents → ℕ
total_blocks m = total_weight (finite.entries m)

-- no more blocks at a path than 2 ^ 64 octets take
abbrev pub AreSmall : List (Path × Extent) → Type 0
AreSmall es = (p : Path) → weight_in (finite.find path_cmp p es) ≤ 2 ^ 58

-- in path order, with their blocks counted
pub record IsCounted (es : List (Path × Extent)) (used : ℕ) : Type 0 where
  pub ordered : IsOrdered es
  pub small : AreSmall es
  pub counted : used ≡ total_weight es

-- with each p/r at q/r
abbrev pub rehomed : Path → Path → Extents → Extents
rehomed p q m = let es = finite.entries m in finite.from_sorted (puts (rest_in p es) (moved_to p q (tree_in p es)))

-- how many ticks an item may take, by the sizes of a map
abbrev pub bound_on : Extents → Item → ℕ
bound_on m = bound_by (λ p. content_blocks (finite.get m p)) (λ p. weight_in (finite.get m p))

-- the root or a directory
abbrev pub is_folder : Option Extent → Bool
is_folder None = false
is_folder (Some extent.Directory) = true
is_folder (Some (extent.File octets)) = false

abbrev pub good_among : Extents → Path → Bool
good_among m [] = true
good_among m (n ∷ p) = is_folder (finite.get m (n ∷ p))

abbrev pub good_parent : Extents → Path → Bool
good_parent m p = good_among m (parent p)

-- the map says whatever is in the filestore, and no more
pub record IsOutline (m : Extents) (F : Filestore) : Type 0 where
  pub found : (p : Path) → finite.get m p ≡ extent_at F p

-- whatever filestore the map describes: the status is the row's, and the map after it describes the filestore after it
pub record Does (m m' : Extents) (request : Request) (stated : Status) : Type 0 where
  pub status : (F : Filestore) → IsOutline m F → Performed stated ≡ (table F request).answer
  pub outlines : (F : Filestore) → IsOutline m F → IsOutline m' (after F (table F request).changes)
  pub staged : (F : Filestore) → IsOutline m F → (after F (table F request).changes).staged ≡ F.staged

-- or there was no memory to make a path, though the row is successful, and the map is as before
abbrev pub DoesOrNot : Extents → Extents → Request → Result Status AllocError → Type 0
DoesOrNot m m' request (Ok status) = Does m m' request status
DoesOrNot m m' request (Err memory) = (m' ≡ m) × IsTrue (makes_path request)
    × ((F : Filestore) → IsOutline m F → IsTrue (succeeded (table F request).answer))

-- the same where prefixes are protected
pub record Performs (prefixes : List Path) (m m' : Extents) (request : Request) (stated : Status) : Type 0 where
  pub status : (F : Filestore) → IsOutline m F → Performed stated ≡ (row prefixes F 0 (Perform request)).answer
  pub outlines : (F : Filestore) → IsOutline m F → IsOutline m' (performed prefixes F 0 (Perform request))
  pub staged : (F : Filestore) → IsOutline m F → (performed prefixes F 0 (Perform request)).staged ≡ F.staged

abbrev pub PerformsOrNot : List Path → Extents → Extents → Request → Result Status AllocError → Type 0
PerformsOrNot prefixes m m' request (Ok status) = Performs prefixes m m' request status
PerformsOrNot prefixes m m' request (Err memory) =
    (m' ≡ m) × IsTrue (makes_path request) × ((F : Filestore) → IsOutline m F →
    IsTrue (succeeded (row prefixes F 0 (Perform request)).answer))

-- whether a file may be put where this is
abbrev pub gives_way : List Path → Path → Option Extent → Bool
gives_way prefixes p None = true
gives_way prefixes p (Some extent.Directory) = false
gives_way prefixes p (Some (extent.File octets)) = not (is_protected prefixes p)

abbrev pub can_install : List Path → Extents → Path → Bool
can_install prefixes m p = good_parent m p && gives_way prefixes p (finite.get m p)

-- what a store says that is at a path
abbrev pub extent_of_existing : ExistingNode → Extent
extent_of_existing s = if is_file_kind s.kind then extent.File s.size else extent.Directory

-- with what was found, one after another
abbrev pub added : List ExistingNode → Extents → Extents
added [] m = m
added (s ∷ ss) m = added ss (finite.insert m s.path (extent_of_existing s))

-- at the paths that pass the test and at which something exists, that; at the others as before
abbrev pub AddsWhere : (Path → Bool) → Filestore → Extents → Extents → Type 0
AddsWhere test F m m' = (p : Path) → finite.get m' p ≡ (if test p && is_some (extent_at F p) then extent_at F p
    else finite.get m p)

-- what is at the paths that pass the test, and no more
abbrev pub IsSurvey : Extents → (Path → Bool) → Filestore → Type 0
IsSurvey m test F = (p : Path) → finite.get m p ≡ (if test p then extent_at F p else None)
