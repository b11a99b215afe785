-- What only the proofs of the code need of `Sparse`.
--     shows paths x                   x is not the root, and is at or above one of the paths, as far as its first 8
--                                     names go
--     paths_in es, AreSame a b        the paths of some entries;  the same paths are in two lists
--     PassAbove test p                p and all paths above it, the root apart, pass the test
--     SeesBy paths items              the items see no more than what the paths show
--     origin p q s, moved_back        where s was before a rename of p to q, its first 8 names: of one path, and of all
--     shown_before request paths      what is to be shown before a request, where these are after it
--     HoldsLeased paths fp            all that the footprint leases is among the paths
--     moves_at request x, is_moved    x is at or below the path that a request moves, or one of the requests
--     children p paths                the children of p at or above one of the paths
--     IsFiller p n d                  d is below p and has n names
--     IsUnseenBelow paths p n d       d is below p and has n names, and no path is at or below its child of p
--     HidesIn visible m p n           as `Hides` has it, of a map
--     IsSparseSurvey known visible m done F      the map says what is in F at the visible paths that pass the test, and
--                                     hides as much as F below each of them, as far as that is known
--     FillsAt visible known F p m m'  the map with one directory more, if F hides something below p
use Rattle.std.specs.Prelude.{◌≡◌, ℕ, suc, ◌+◌, ◌≤◌, Bool, false, not, ◌&&◌, IsTrue, IsFalse, IsSome, ◌↔◌, ◌⊎◌, if◌then◌else◌, List, [], ◌∷◌, ◌++◌, length, map, take, Option, Some, None}
use Rattle.std.specs.List.{list_any}
use Rattle.std.specs.FinMap as finite
use Rattle.std.specs.FinSet as set
use Rattle.cfdp_paths.specs.Paths.{Path, same_path, is_at_or_below, is_below, rebased}
use Rattle.cfdp_actions.specs.Filestore.{Filestore, is_root}
use Rattle.cfdp_actions.specs.Actions.{Request, CreateFile, DeleteFile, RenameFile, AppendFile, ReplaceFile, CreateDirectory, RemoveDirectory, DenyFile, DenyDirectory, Item, Perform}
use Rattle.cfdp_leases.specs.Footprint.{Footprint, named_in}
use Rattle.cfdp_states.specs.declared.extent.Extent.TheVariants as extent
use Rattle.cfdp_states.specs.Sketching.{Extents, extent_at}
use Rattle.cfdp_states.specs.Sparse.{Hides, Knows, Sees}

abbrev pub is_shown : List Path → Path → Bool
is_shown paths x = list_any (λ s. is_at_or_below s x) paths

abbrev pub shows : List Path → Path → Bool
shows paths x = not (is_root x) && is_shown paths (take 8 x)

abbrev pub paths_in : {X : Type 0} → List (Path × X) → List Path
paths_in es = map (λ e. e.0) es

abbrev pub AreSame : List Path → List Path → Type 0
AreSame a b = (x : Path) → list_any (same_path x) a ≡ list_any (same_path x) b

abbrev pub PassAbove : (Path → Bool) → Path → Type 0
PassAbove test p = (x : Path) → IsFalse (is_root x) → IsTrue (is_at_or_below p x) → IsTrue (test x)

abbrev pub SeesBy : List Path → List Item → Type 0
SeesBy paths items = (test : Path → Bool) → ((x : Path) → IsTrue (shows paths x) → IsTrue (test x)) → Sees test items

-- none where nothing can be there after the rename
abbrev pub origin : Path → Path → Path → Option Path
origin p q s = if is_at_or_below s q then Some (take 8 (rebased q p s))
    else if is_at_or_below s p then None else Some s

abbrev pub with_origin : Option Path → List Path → List Path
with_origin None paths = paths
with_origin (Some s) paths = s ∷ paths

abbrev pub moved_back : Path → Path → List Path → List Path
moved_back p q [] = []
moved_back p q (s ∷ paths) = with_origin (origin p q s) (moved_back p q paths)

abbrev pub back_over : Request → List Path → List Path
back_over (RenameFile p q) paths = moved_back p q paths
back_over (CreateFile p) paths = paths
back_over (DeleteFile p) paths = paths
back_over (AppendFile p q) paths = paths
back_over (ReplaceFile p q) paths = paths
back_over (CreateDirectory p) paths = paths
back_over (RemoveDirectory p) paths = paths
back_over (DenyFile p) paths = paths
back_over (DenyDirectory p) paths = paths

abbrev pub shown_before : Request → List Path → List Path
shown_before request paths = back_over request paths ++ named_in (Perform request)

pub record HoldsLeased (paths : List Path) (fp : Footprint) : Type 0 where
  pub exclusive : (e : Path) → IsTrue (set.contains fp.exclusive e) → IsTrue (list_any (same_path e) paths)
  pub shared : (e : Path) → IsTrue (set.contains fp.shared e) → IsTrue (list_any (same_path e) paths)

abbrev pub moves_at : Request → Path → Bool
moves_at (RenameFile p q) x = is_at_or_below x p
moves_at (CreateFile p) x = false
moves_at (DeleteFile p) x = false
moves_at (AppendFile p q) x = false
moves_at (ReplaceFile p q) x = false
moves_at (CreateDirectory p) x = false
moves_at (RemoveDirectory p) x = false
moves_at (DenyFile p) x = false
moves_at (DenyDirectory p) x = false

abbrev pub is_moved : List Request → Path → Bool
is_moved requests x = list_any (λ r. moves_at r x) requests

abbrev pub children : Path → List Path → List Path
children p [] = []
children p (s ∷ paths) = if is_below s p then take (suc (length p)) s ∷ children p paths else children p paths

abbrev pub IsFiller : Path → ℕ → Path → Type 0
IsFiller p n d = IsTrue (is_below d p) × (length d ≡ n)

pub record IsUnseenBelow (paths : List Path) (p : Path) (n : ℕ) (d : Path) : Type 0 where
  pub below : IsTrue (is_below d p)
  pub long : length d ≡ n
  pub unseen : IsFalse (is_shown paths (take (length p + 1) d))

pub record HidesIn (visible : Path → Bool) (m : Extents) (p : Path) (n : ℕ) : Type 0 where
  pub path : Path
  pub below : IsTrue (is_below path p)
  pub hidden : (y : Path) → IsTrue (is_at_or_below path y) → IsTrue (is_below y p) → IsFalse (visible y)
  pub there : IsSome (finite.get m path)
  pub deep : n ≤ length path

-- a path passes as its first 8 names do
pub record IsSparseSurvey (known visible : Path → Bool) (m : Extents) (done : Path → Bool)
    (F : Filestore) : Type 0 where
  pub stated : (p : Path) → IsTrue (visible p) → finite.get m p ≡ (if done (take 8 p) then extent_at F p else None)
  -- a file is one of the filestore, whether it is visible or not
  pub kept : (p : Path) → (finite.get m p ≡ None) ⊎ ((finite.get m p ≡ Some extent.Directory)
      ⊎ (finite.get m p ≡ extent_at F p))
  pub deep : (p : Path) (n : ℕ) → IsTrue (visible p) → IsTrue (done (take 8 p)) → Knows (known p) n →
      Hides visible F p n ↔ HidesIn visible m p n
  pub none : (p : Path) → IsTrue (visible p) → IsFalse (done (take 8 p)) → HidesIn visible m p 0 → ⊥

-- as deep as what is hidden there, as far as that is known, and no deeper
pub data FillsAt (visible known : Path → Bool) (F : Filestore) (p : Path) (m : Extents) : Extents → Type 0 where
  unfilled : (Hides visible F p 0 → ⊥) → FillsAt visible known F p m m
  filled : (d : Path) → IsTrue (is_below d p) → ((y : Path) → IsTrue (is_at_or_below d y) → IsTrue (is_below y p) →
      IsFalse (visible y)) →
      ((k : ℕ) → Knows (known p) k → k ≤ length d → Hides visible F p k) →
      ((k : ℕ) → Knows (known p) k → Hides visible F p k → k ≤ length d) →
      FillsAt visible known F p m (finite.insert m d extent.Directory)
