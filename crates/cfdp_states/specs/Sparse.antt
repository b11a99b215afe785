-- Views that have of a filestore only what a list of items sees: what is at the paths that it names, where they were
-- before it. All that is in between is not looked at: instead of it the view has one directory at most for each
-- visible path, so that what such a view costs grows with the list alone.
--     passes_after request test, passes_after_item item test      the test that a path passes after a request, or an
--                                     item, if what is there passed the test before: after a rename of p to q, q/r
--                                     passes as p/r did, and so does what has more than 8 names, since nothing is
--                                     there; so does all that is at or below p
--     sees_path test p                a path and its parent pass the test
--     Sees test items                 all paths that are named, and their parents, pass the test as things are then
--     KnowsMove, KnowsMoves test items        each path at or below one that moves passes it then
--     Hides visible F p n             something exists in F whose nearest visible path above it is p, and its path
--                                     has n names or more
--     Knows known n                   what is known of the paths of n names or more that are hidden: whether there is
--                                     one; or only whether there is any path
--     AreAlike a b                    what is at two paths: of one kind, and files of one length
--     IsSparseSubstitute known visible F G   F and G are alike at the visible paths, and hide something below the same
--                                     ones: as deep in both where that is known
--     IsSparseViewOf v items F start peak taken      the view describes F, as far as the items see it
--     joins_at m request              something is to move to a path at which the map has nothing, but below it: what
--                                     such a view can't say
--     TellsSparse, TellsSparseInstall how such a view goes on with the next item
use Rattle.std.specs.Prelude.{◌≡◌, ⊤, ℕ, ◌+◌, ◌≤◌, max, Bool, true, false, not, ◌&&◌, ◌||◌, nat_lt, if◌then◌else◌, IsTrue, IsFalse, IsSome, is_some, ◌↔◌, List, [], ◌∷◌, length, Option, Some, None}
use Rattle.std.specs.List.{list_all}
use Rattle.std.specs.FinMap as finite
use Rattle.cfdp_paths.specs.Paths.{Path, is_at_or_below, is_below, parent, rebased}
use Rattle.cfdp_paths.specs.PathMaps.{any_below}
use Rattle.cfdp_status.specs.declared.status.Status.{Status}
use Rattle.cfdp_status.specs.Codes.{is_successful}
use Rattle.cfdp_actions.specs.Filestore.{Node, Directory, File, Filestore, node_at, blocks, is_root}
use Rattle.cfdp_actions.specs.Actions.{Request, CreateFile, DeleteFile, RenameFile, AppendFile, ReplaceFile, CreateDirectory, RemoveDirectory, DenyFile, DenyDirectory, Item, Install, Perform, Performed, row}
use Rattle.cfdp_leases.specs.Footprint.{named_in}
use Rattle.cfdp_leases.specs.Items.{performed, step_bound}
use Rattle.cfdp_states.specs.Alone.{alone}
use Rattle.cfdp_states.specs.Views.{Sketch, IsViewOf, installed_if}
use Rattle.cfdp_states.specs.Sketching.{Extents}

abbrev pub passes_after : Request → (Path → Bool) → Path → Bool
passes_after (RenameFile p q) test x =
    if is_at_or_below x q then nat_lt 8 (length x) || test (rebased q p x) else is_at_or_below x p || test x
passes_after (CreateFile p) test x = test x
passes_after (DeleteFile p) test x = test x
passes_after (AppendFile p q) test x = test x
passes_after (ReplaceFile p q) test x = test x
passes_after (CreateDirectory p) test x = test x
passes_after (RemoveDirectory p) test x = test x
passes_after (DenyFile p) test x = test x
passes_after (DenyDirectory p) test x = test x

abbrev pub passes_after_item : Item → (Path → Bool) → Path → Bool
passes_after_item (Install p) test = test
passes_after_item (Perform request) test = passes_after request test

-- a path and its parent, if that is not the root
abbrev pub sees_path : (Path → Bool) → Path → Bool
sees_path test p = test p && (is_root (parent p) || test (parent p))

abbrev pub Sees : (Path → Bool) → List Item → Type 0
Sees test [] = ⊤
Sees test (item ∷ items) = IsTrue (list_all (sees_path test) (named_in item)) × Sees (passes_after_item item test) items

-- what is at or below the path that a rename moves
abbrev pub KnowsMove : (Path → Bool) → Request → Type 0
KnowsMove test (RenameFile p q) = (c : Path) → IsTrue (is_at_or_below c p) → IsTrue (test c)
KnowsMove test (CreateFile p) = ⊤
KnowsMove test (DeleteFile p) = ⊤
KnowsMove test (AppendFile p q) = ⊤
KnowsMove test (ReplaceFile p q) = ⊤
KnowsMove test (CreateDirectory p) = ⊤
KnowsMove test (RemoveDirectory p) = ⊤
KnowsMove test (DenyFile p) = ⊤
KnowsMove test (DenyDirectory p) = ⊤

abbrev pub KnowsMoves : (Path → Bool) → List Item → Type 0
KnowsMoves test [] = ⊤
KnowsMoves test (Install p ∷ items) = KnowsMoves test items
KnowsMoves test (Perform request ∷ items) = KnowsMove test request × KnowsMoves (passes_after request test) items

-- all from it up to p, p apart, is not visible
pub record Hides (visible : Path → Bool) (F : Filestore) (p : Path) (n : ℕ) : Type 0 where
  pub path : Path
  pub below : IsTrue (is_below path p)
  pub hidden : (y : Path) → IsTrue (is_at_or_below path y) → IsTrue (is_below y p) → IsFalse (visible y)
  pub there : IsSome (node_at F path)
  pub deep : n ≤ length path

-- of a depth of 0 names: whether anything is there
abbrev pub Knows : Bool → ℕ → Type 0
Knows true n = ⊤
Knows false n = n ≡ 0

-- nothing and nothing, two directories, or two files of one length
abbrev pub AreAlike : Option Node → Option Node → Type 0
AreAlike None None = ⊤
AreAlike None (Some node) = ⊥
AreAlike (Some node) None = ⊥
AreAlike (Some Directory) (Some Directory) = ⊤
AreAlike (Some Directory) (Some (File octets)) = ⊥
AreAlike (Some (File octets)) (Some Directory) = ⊥
AreAlike (Some (File octets)) (Some (File others)) = length octets ≡ length others

pub record IsSparseSubstitute (known visible : Path → Bool) (F G : Filestore) : Type 0 where
  pub staged : G.staged ≡ F.staged
  pub alike : (p : Path) → IsTrue (visible p) → AreAlike (node_at F p) (node_at G p)
  pub deep : (p : Path) (n : ℕ) → IsTrue (visible p) → Knows (known p) n → Hides visible F p n ↔ Hides visible G p n

-- the view describes a filestore of which the items see what they see of F, and that has more or fewer blocks by what
-- they do not see
pub record IsSparseViewOf (v : Sketch) (items : List Item) (F : Filestore) (start peak taken : ℕ) : Type 0 where
  pub known : Path → Bool
  pub visible : Path → Bool
  pub seen : Filestore
  pub first : ℕ
  pub most : ℕ
  pub tells : IsViewOf v seen first most taken
  pub one : IsSparseSubstitute known visible F seen
  pub sees : Sees visible items
  pub moves : KnowsMoves known items
  pub gap : blocks F + first ≡ blocks seen + start
  pub peaks : peak + first ≡ most + start

abbrev pub joins_at : Extents → Request → Bool
joins_at m (RenameFile p q) = any_below q (finite.entries m) && not (is_some (finite.get m q))
joins_at m (CreateFile p) = false
joins_at m (DeleteFile p) = false
joins_at m (AppendFile p q) = false
joins_at m (ReplaceFile p q) = false
joins_at m (CreateDirectory p) = false
joins_at m (RemoveDirectory p) = false
joins_at m (DenyFile p) = false
joins_at m (DenyDirectory p) = false

-- as `Tells` has it of a view, for the next request of a list, which goes on if that is successful
abbrev pub TellsSparse : Sketch → Sketch → Request → Status → Type 0
TellsSparse v w request status =
    (items : List Item) (F : Filestore) (start peak taken : ℕ) →
    IsSparseViewOf v (Perform request ∷ items) F start peak taken →
    let G = performed v.prefixes F 0 (Perform request) in
    (Performed status ≡ (row v.prefixes F 0 (Perform request)).answer)
    × (IsTrue (is_successful status) → IsSparseViewOf w items G start (max peak (blocks G)) (taken
    + (1 + step_bound F (Perform request))))

-- as `TellsInstall` has it
abbrev pub TellsSparseInstall : Sketch → Sketch → Path → ℕ → Bool → Type 0
TellsSparseInstall v w p size done =
    (items : List Item) (F : Filestore) (start peak taken : ℕ) (x : List ℕ) →
    IsSparseViewOf v (Install p ∷ items) F start peak taken → length x ≡ size →
    let H = alone F x in
    let G = performed v.prefixes H 0 (Install p) in
    (installed_if done ≡ (row v.prefixes H 0 (Install p)).answer)
    × (IsTrue done → IsSparseViewOf w items G start (max peak (max (blocks H) (blocks G))) (taken
    + (1 + step_bound H (Install p))))
