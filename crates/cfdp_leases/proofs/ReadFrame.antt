-- A row reads only what the footprint covers.
--     covered_read, covered_parent      what `IsWithin` says of the item's names and of what is above them
--     frame_of_reads
use Rattle.std.proofs.Common.{◌≡◌, ◌≢◌, refl, sym, ◌∙◌, ap, ℕ, ◌+◌, ◌*◌, Bool, true, false, cond, not, ◌&&◌, List, [], ◌∷◌, ◌++◌, min}
use Rattle.std.specs.Prelude.{flat_map, Option, None, is_some, if◌then◌else◌, ◌==◌}
use Rattle.std.specs.FinMap as finite
use Rattle.std.proofs.lemmas.Bool.{and_parts, or_left, or_right}
use Rattle.cfdp_paths.specs.Paths.{Path, same_path, is_at_or_below, is_below, parent, ancestors}
use Rattle.cfdp_paths.proofs.Below.{at_or_below-trans, parent_at_or_below, parent_other}
use Rattle.cfdp_actions.specs.Filestore.{Node, Directory, File, Filestore, node_at, has_entries, is_directory, is_good, is_root, parent_is_good, tree_at, weight}
use Rattle.cfdp_actions.specs.Actions.{Item, Install, Perform, Request, CreateFile, DeleteFile, RenameFile, AppendFile, ReplaceFile, CreateDirectory, RemoveDirectory, DenyFile, DenyDirectory, create, delete_file, rename, append, replace, remove_directory, deny_file, deny_directory, install, table, free_row, is_barred, is_protected, denied, row}
use Rattle.cfdp_status.specs.declared.action.Action.TheVariants as action
use Rattle.cfdp_leases.specs.Items.{content, step_bound}
use Rattle.cfdp_leases.specs.Footprint.{exclusive_in, read_in, shared_in, Footprint, is_exclusive, is_covered, IsWithin}
use Rattle.cfdp_leases.specs.Laws.{IsAlike, FrameOfReads}
use Rattle.cfdp_leases.proofs.Sets.{exists, exists-append_left, exists-append_right, all_at, exists-flat_map, any_in-at, any_in-from}
use Rattle.cfdp_leases.proofs.Conflict.{ancestor_exists}
use Rattle.cfdp_actions.proofs.Order.{same_path-refl, get_kept}
use Rattle.cfdp_paths.proofs.InOrder.{path_antisym}
use Rattle.cfdp_paths.proofs.Comparing.{path_cmp-total}

-- what is at or below an exclusive path is exclusive
pub exclusive_below : (fp : Footprint) (p q : Path) → is_exclusive fp p ≡ true → is_at_or_below q p ≡ true → is_exclusive fp q ≡ true
exclusive_below fp p q h below =
    let found = any_in-from fp.exclusive (λ e. is_at_or_below p e) h in
    any_in-at fp.exclusive (λ e. is_at_or_below q e) found.0 found.1 (at_or_below-trans q p found.0 below found.2)

pub covered_exclusive : (fp : Footprint) (p : Path) → is_exclusive fp p ≡ true → is_covered fp p ≡ true
covered_exclusive fp p h = or_left _ _ h

-- a name of the item, read or changed
pub covered_read : (fp : Footprint) (item : Item) (p : Path) → IsWithin fp item → exists p (read_in item) → is_covered fp p ≡ true
covered_read fp item p w h =
    all_at (λ x. is_covered fp x ≡ true) (shared_in item) p w.shared (exists-append_left p (read_in item)
    (flat_map ancestors (exclusive_in item ++ read_in item)) h)

-- the parent of a name, the root apart
pub covered_parent : (fp : Footprint) (item : Item) (p : Path) → IsWithin fp item → exists p (exclusive_in item ++ read_in item) → parent p ≢ [] →
    is_covered fp (parent p) ≡ true
covered_parent fp item p w h some =
    let other : p ≢ parent p = λ same. parent_other p (λ none. some (ap parent none)) same in
    let above : exists (parent p) (ancestors p) = ancestor_exists p (parent p) (parent_at_or_below p) other some in
    all_at (λ x. is_covered fp x ≡ true) (shared_in item) (parent p) w.shared
    (exists-append_right (parent p) (read_in item) (flat_map ancestors (exclusive_in item ++ read_in item))
    (exists-flat_map ancestors (exclusive_in item ++ read_in item) p (parent p) h above))

-- ---- what is read

same_kept : (F G : Filestore) (test : Path → Bool) → ((q : Path) → test q ≡ true → node_at F q ≡ node_at G q) → finite.retain_keys F.nodes test
    ≡ finite.retain_keys G.nodes test
same_kept F G test same =
    finite.same_map path_cmp-total path_antisym _ _
    (λ q. get_kept F test q ∙ chosen (test q) (node_at F q) (node_at G q) (same q) ∙ sym (get_kept G test q))
  where
    chosen : (b : Bool) (x y : Option Node) → (b ≡ true → x ≡ y) → cond b x None ≡ cond b y None
    chosen true x y h = h refl
    chosen false x y h = refl

module _ (fp : Footprint) (F G : Filestore) (slot : ℕ) (alike : IsAlike fp slot F G) where
  node_alike : (p : Path) → is_exclusive fp p ≡ true → node_at F p ≡ node_at G p
  node_alike p h = alike.kept p (covered_exclusive fp p h)

  tree_alike : (p : Path) → is_exclusive fp p ≡ true → tree_at F p ≡ tree_at G p
  tree_alike p h = ap finite.entries (same_kept F G (λ q. is_at_or_below q p) (λ q below. node_alike q (exclusive_below fp p q h below)))

  entries_alike : (p : Path) → is_exclusive fp p ≡ true → has_entries F p ≡ has_entries G p
  entries_alike p h =
      ap (λ m. not (finite.len m == 0)) (same_kept F G (λ q. is_below q p) (λ q below.
      node_alike q (exclusive_below fp p q h (and_parts (is_at_or_below q p) _ below).0)))

  good_alike : (item : Item) (p : Path) → IsWithin fp item → exists p (exclusive_in item ++ read_in item) → parent_is_good F p ≡ parent_is_good G p
  good_alike item p w h = ap (λ b. not (is_root p) && b) (at (parent p) (covered_parent fp item p w h))
    where
      at : (a : Path) → (a ≢ [] → is_covered fp a ≡ true) → is_good F a ≡ is_good G a
      at [] c = refl
      at (n ∷ a) c = ap is_directory (alike.kept (n ∷ a) (c (λ e. cc)))

  head_exists : (p : Path) (ps : List Path) → exists p (p ∷ ps)
  head_exists p ps = or_left _ _ (same_path-refl p)

  second_exists : (p q : Path) (ps : List Path) → exists q (p ∷ q ∷ ps)
  second_exists p q ps = or_right (same_path q p) _ (or_left _ _ (same_path-refl q))

  read_alike : (item : Item) (q : Path) → IsWithin fp item → exists q (read_in item) → node_at F q ≡ node_at G q
  read_alike item q w h = alike.kept q (covered_read fp item q w h)

  table_alike : (request : Request) → IsWithin fp (Perform request) → table F request ≡ table G request
  unfolding table
  table_alike (CreateFile p) w = λ i. create action.CreateFile (File []) p (node_alike p w.exclusive.0 i)
      (good_alike (Perform (CreateFile p)) p w (head_exists p []) i)
  table_alike (DeleteFile p) w = ap (delete_file p) (node_alike p w.exclusive.0)
  table_alike (RenameFile p q) w =
      λ i. rename p q (node_alike p w.exclusive.0 i) (node_alike q w.exclusive.1.0 i)
      (good_alike (Perform (RenameFile p q)) q w (second_exists p q []) i) (is_at_or_below q p) (tree_alike p w.exclusive.0 i)
  table_alike (AppendFile p q) w =
      λ i. append p (node_alike p w.exclusive.0 i) (read_alike (Perform (AppendFile p q)) q w (head_exists q []) i)
  table_alike (ReplaceFile p q) w =
      λ i. replace p (same_path p q) (node_alike p w.exclusive.0 i) (read_alike (Perform (ReplaceFile p q)) q w (head_exists q []) i)
  table_alike (CreateDirectory p) w = λ i. create action.CreateDirectory Directory p (node_alike p w.exclusive.0 i)
      (good_alike (Perform (CreateDirectory p)) p w (head_exists p []) i)
  table_alike (RemoveDirectory p) w = λ i. remove_directory p (node_alike p w.exclusive.0 i) (entries_alike p w.exclusive.0 i)
  table_alike (DenyFile p) w = ap (deny_file p) (node_alike p w.exclusive.0)
  table_alike (DenyDirectory p) w = λ i. deny_directory p (node_alike p w.exclusive.0 i) (entries_alike p w.exclusive.0 i)

  free_row_alike : (item : Item) → IsWithin fp item → free_row F slot item ≡ free_row G slot item
  unfolding free_row
  free_row_alike (Install p) w = λ i. install slot p (alike.staged i) (node_alike p w.exclusive.0 i) (good_alike (Install p) p w (head_exists p []) i)
  free_row_alike (Perform request) w = table_alike request w

  barred_alike : (prefixes : List Path) (item : Item) → IsWithin fp item → is_barred prefixes F item ≡ is_barred prefixes G item
  barred_alike prefixes (Install p) w = ap (λ node. is_some node && is_protected prefixes p) (node_alike p w.exclusive.0)
  barred_alike prefixes (Perform request) w = refl

  row_alike : (prefixes : List Path) (item : Item) → IsWithin fp item → row prefixes F slot item ≡ row prefixes G slot item
  unfolding row
  row_alike prefixes item w = λ i. if (barred_alike prefixes item w i) then denied item else (free_row_alike item w i)

  bound_alike : (item : Item) → IsWithin fp item → step_bound F item ≡ step_bound G item
  unfolding step_bound
  bound_alike (Install p) w = ap (λ node. 1 + content node) (node_alike p w.exclusive.0)
  bound_alike (Perform (CreateFile p)) w = refl
  bound_alike (Perform (DeleteFile p)) w = ap (λ node. 1 + content node) (node_alike p w.exclusive.0)
  bound_alike (Perform (RenameFile p q)) w = refl
  bound_alike (Perform (AppendFile p q)) w = ap (λ node. 2 * content node) (read_alike (Perform (AppendFile p q)) q w (head_exists q []))
  bound_alike (Perform (ReplaceFile p q)) w =
      λ i. if (same_path p q) then 0 else (content (node_alike p w.exclusive.0 i)
      + 2 * content (read_alike (Perform (ReplaceFile p q)) q w (head_exists q []) i))
  bound_alike (Perform (CreateDirectory p)) w = refl
  bound_alike (Perform (RemoveDirectory p)) w = refl
  bound_alike (Perform (DenyFile p)) w = ap weight (node_alike p w.exclusive.0)
  bound_alike (Perform (DenyDirectory p)) w = ap (λ node. min 1 (weight node)) (node_alike p w.exclusive.0)

pub frame_of_reads : FrameOfReads
frame_of_reads prefixes fp F G slot item alike w = (row_alike fp F G slot alike prefixes item w, bound_alike fp F G slot alike item w)
