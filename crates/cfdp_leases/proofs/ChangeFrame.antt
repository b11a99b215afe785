-- A row changes only what is exclusive, and so keeps each footprint without a conflict.
--     node_at-changed          what is at a path after one change
--     own_changes, frame_of_changes, isolation
use Rattle.std.proofs.Common.{◌≡◌, refl, sym, ◌∙◌, ap, ℕ, Bool, true, false, cond, inl, inr, List, [], ◌∷◌, ◌++◌, map, length, drop}
use Rattle.std.specs.Prelude.{Option, Some, None, is_some, if◌then◌else◌}
use Rattle.std.specs.List.{AllByRecursion}
use Rattle.std.specs.FinSet as set
use Rattle.std.specs.FinMap as finite
use Rattle.std.proofs.lemmas.Bool.{or_cases, true≢false, cases_Bool, or_left, or_right}
use Rattle.cfdp_status.specs.declared.action.Action.{Action}
use Rattle.cfdp_paths.specs.Paths.{Path, same_path, is_at_or_below, rebased}
use Rattle.cfdp_paths.proofs.Comparing.{same_path-Decides, path_cmp-total}
use Rattle.cfdp_paths.proofs.Below.{at_or_below-append, prefixes_compare}
use Rattle.cfdp_paths.specs.PathMaps.{is_too_deep}
use Rattle.cfdp_actions.specs.Filestore.{Node, Directory, File, Filestore, node_at, staged_in, Change, Becomes, Stages, changed, after, has_entries, parent_is_good, tree_at}
use Rattle.cfdp_actions.specs.Actions.{Item, Install, Perform, Request, CreateFile, DeleteFile, RenameFile, AppendFile, ReplaceFile, CreateDirectory, RemoveDirectory, DenyFile, DenyDirectory, refused, succeeds, create, delete_file, rename, vacating, arriving, append, replace, remove_directory, deny_file, deny_directory, install, table, free_row, is_barred, denied, row}
use Rattle.cfdp_actions.proofs.Order.{get_kept, kept_some}
use Rattle.cfdp_status.specs.declared.action.Action.TheVariants as action
use Rattle.cfdp_status.specs.declared.status.Status.TheVariants.{NotAllowed}
use Rattle.cfdp_status.proofs.Appended.{all-append}
use Rattle.cfdp_leases.specs.Footprint.{Footprint, is_exclusive, is_covered, reaches, is_conflict, IsWithin}
use Rattle.cfdp_leases.specs.Laws.{IsOwn, OwnChanges, FrameOfChanges, Isolation}
use Rattle.cfdp_leases.proofs.Sets.{exists, all_from, any_in-from, union_left, union_right}
use Rattle.cfdp_leases.proofs.Conflict.{reaches_at}
use Rattle.cfdp_leases.proofs.ReadFrame.{exclusive_below}

-- ---- one change

-- what a change writes at a path, where x is there before
abbrev pub written : Change → Path → Option Node → Option Node
written (Becomes p node) q x = cond (same_path q p) node x
written (Stages slot octets) q x = x

pub node_at-changed : (F : Filestore) (c : Change) (q : Path) → node_at (changed F c) q ≡ written c q (node_at F q)
node_at-changed F (Becomes p None) q = finite.get-remove path_cmp-total F.nodes p q
node_at-changed F (Becomes p (Some node)) q = finite.get-insert path_cmp-total F.nodes p node q
node_at-changed F (Stages slot octets) q = refl

-- ---- the entries of a tree

-- the keys of what was retained pass the test
pub keys_pass : (F : Filestore) (test : Path → Bool) (q : Path) → exists q (finite.keys (finite.retain_keys F.nodes test)) → test q ≡ true
keys_pass F test q h =
    let there : is_some (finite.get (finite.retain_keys F.nodes test) q) ≡ true = finite.contains_key-keys (finite.retain_keys F.nodes test) q ∙ h in
    (kept_some (test q) (node_at F q) (sym (ap is_some (get_kept F test q)) ∙ there)).0

all_entries : (P : Path → Type 0) (es : List (Path × Node)) → AllByRecursion P (map (λ e. e.0) es) → AllByRecursion (λ (e : Path × Node). P e.0) es
all_entries P [] all = tt
all_entries P (e ∷ es) all = (all.0, all_entries P es all.1)

pub tree_below : (F : Filestore) (p : Path) → AllByRecursion (λ (e : Path × Node). is_at_or_below e.0 p ≡ true) (tree_at F p)
tree_below F p =
    all_entries (λ x. is_at_or_below x p ≡ true) (tree_at F p)
    (all_from (λ x. is_at_or_below x p ≡ true) (finite.keys (finite.retain_keys F.nodes (λ q. is_at_or_below q p))) (keys_pass F (λ q. is_at_or_below q p)))

-- ---- own changes

module _ (fp : Footprint) (slot : ℕ) where
  abbrev Own : List Change → Type 0
  Own changes = AllByRecursion (IsOwn fp slot) changes

  own_vacated : (p : Path) (es : List (Path × Node)) → is_exclusive fp p ≡ true → AllByRecursion (λ (e : Path × Node). is_at_or_below e.0 p ≡ true) es →
      Own (vacating es)
  own_vacated p [] h below = tt
  own_vacated p (e ∷ es) h below = (exclusive_below fp p e.0 h below.0, own_vacated p es h below.1)

  own_arriving : (p q : Path) (es : List (Path × Node)) → is_exclusive fp q ≡ true → Own (arriving p q es)
  own_arriving p q [] h = tt
  own_arriving p q (e ∷ es) h = (exclusive_below fp q (rebased p q e.0) h (at_or_below-append q (drop (length p) e.0)), own_arriving p q es h)

  own_create : (action : Action) (node : Node) (p : Path) (x : Option Node) (good : Bool) → is_exclusive fp p ≡ true → Own (create action node p x good).changes
  unfolding create
  own_create action node p (Some _) good h = tt
  own_create action node p None false h = tt
  own_create action node p None true h = (h, tt)

  own_delete : (p : Path) (x : Option Node) → is_exclusive fp p ≡ true → Own (delete_file p x).changes
  unfolding delete_file
  own_delete p None h = tt
  own_delete p (Some Directory) h = tt
  own_delete p (Some (File octets)) h = (h, tt)

  own_rename : (p q : Path) (x y : Option Node) (good below : Bool) (es : List (Path × Node)) → is_exclusive fp p ≡ true → is_exclusive fp q ≡ true →
      AllByRecursion (λ (e : Path × Node). is_at_or_below e.0 p ≡ true) es → Own (rename p q x y good below es).changes
  unfolding rename
  own_rename p q None y good below es h k t = tt
  own_rename p q (Some x) (Some y) good below es h k t = tt
  own_rename p q (Some x) None false below es h k t = tt
  own_rename p q (Some x) None true true es h k t = tt
  own_rename p q (Some x) None true false es h k t =
      elim (is_too_deep p q es) as (λ b. Own (if b then refused (NotAllowed action.RenameFile)
      else succeeds action.RenameFile (vacating es ++ arriving p q es) 0 0 0).changes) [
        | true ↦ tt
        | false ↦ all-append (IsOwn fp slot) (vacating es) (arriving p q es) (own_vacated p es h t) (own_arriving p q es k)
      ]

  own_append : (p : Path) (x y : Option Node) → is_exclusive fp p ≡ true → Own (append p x y).changes
  unfolding append
  own_append p None y h = tt
  own_append p (Some x) None h = tt
  own_append p (Some Directory) (Some y) h = tt
  own_append p (Some (File xs)) (Some Directory) h = tt
  own_append p (Some (File xs)) (Some (File ys)) h = (h, tt)

  own_replace : (p : Path) (same : Bool) (x y : Option Node) → is_exclusive fp p ≡ true → Own (replace p same x y).changes
  unfolding replace
  own_replace p same None y h = tt
  own_replace p same (Some x) None h = tt
  own_replace p same (Some Directory) (Some y) h = tt
  own_replace p same (Some (File xs)) (Some Directory) h = tt
  own_replace p true (Some (File xs)) (Some (File ys)) h = tt
  own_replace p false (Some (File xs)) (Some (File ys)) h = (h, tt)

  own_remove : (p : Path) (x : Option Node) (entries : Bool) → is_exclusive fp p ≡ true → Own (remove_directory p x entries).changes
  unfolding remove_directory
  own_remove p None entries h = tt
  own_remove p (Some (File octets)) entries h = tt
  own_remove p (Some Directory) true h = tt
  own_remove p (Some Directory) false h = (h, tt)

  own_deny_file : (p : Path) (x : Option Node) → is_exclusive fp p ≡ true → Own (deny_file p x).changes
  unfolding deny_file
  own_deny_file p None h = tt
  own_deny_file p (Some Directory) h = tt
  own_deny_file p (Some (File octets)) h = (h, tt)

  own_deny_directory : (p : Path) (x : Option Node) (entries : Bool) → is_exclusive fp p ≡ true → Own (deny_directory p x entries).changes
  unfolding deny_directory
  own_deny_directory p None entries h = tt
  own_deny_directory p (Some (File octets)) entries h = tt
  own_deny_directory p (Some Directory) true h = tt
  own_deny_directory p (Some Directory) false h = (h, tt)

  own_install : (p : Path) (octets : List ℕ) (x : Option Node) (good : Bool) → is_exclusive fp p ≡ true → Own (install slot p octets x good).changes
  unfolding install
  own_install p octets None false h = tt
  own_install p octets (Some x) false h = tt
  own_install p octets (Some Directory) true h = tt
  own_install p octets None true h = (refl, (h, tt))
  own_install p octets (Some (File old)) true h = (refl, (h, tt))

  own_table : (F : Filestore) (request : Request) → IsWithin fp (Perform request) → Own (table F request).changes
  unfolding table
  own_table F (CreateFile p) w = own_create action.CreateFile (File []) p (node_at F p) (parent_is_good F p) w.exclusive.0
  own_table F (DeleteFile p) w = own_delete p (node_at F p) w.exclusive.0
  own_table F (RenameFile p q) w =
      own_rename p q (node_at F p) (node_at F q) (parent_is_good F q) (is_at_or_below q p) (tree_at F p) w.exclusive.0 w.exclusive.1.0 (tree_below F p)
  own_table F (AppendFile p q) w = own_append p (node_at F p) (node_at F q) w.exclusive.0
  own_table F (ReplaceFile p q) w = own_replace p (same_path p q) (node_at F p) (node_at F q) w.exclusive.0
  own_table F (CreateDirectory p) w = own_create action.CreateDirectory Directory p (node_at F p) (parent_is_good F p) w.exclusive.0
  own_table F (RemoveDirectory p) w = own_remove p (node_at F p) (has_entries F p) w.exclusive.0
  own_table F (DenyFile p) w = own_deny_file p (node_at F p) w.exclusive.0
  own_table F (DenyDirectory p) w = own_deny_directory p (node_at F p) (has_entries F p) w.exclusive.0

  own_free_row : (F : Filestore) (item : Item) → IsWithin fp item → Own (free_row F slot item).changes
  unfolding free_row
  own_free_row F (Install p) w = own_install p (staged_in F slot) (node_at F p) (parent_is_good F p) w.exclusive.0
  own_free_row F (Perform request) w = own_table F request w

  own_denied : (item : Item) → Own (denied item).changes
  own_denied (Install p) = tt
  own_denied (Perform request) = tt

  own_row : (prefixes : List Path) (F : Filestore) (item : Item) → IsWithin fp item → Own (row prefixes F slot item).changes
  unfolding row
  own_row prefixes F item w =
      elim (is_barred prefixes F item) as (λ b. Own (if b then denied item else free_row F slot item).changes) [
        | true ↦ own_denied item
        | false ↦ own_free_row F item w
      ]

  -- what is not exclusive stays
  pub untouched : (F : Filestore) (changes : List Change) (q : Path) → Own changes → is_exclusive fp q ≡ false → node_at (after F changes) q ≡ node_at F q
  untouched F [] q own h = refl
  untouched F (c ∷ changes) q own h = untouched (changed F c) changes q own.1 h ∙ node_at-changed F c q ∙ stays c own.0
    where
      stays : (c : Change) → IsOwn fp slot c → written c q (node_at F q) ≡ node_at F q
      stays (Stages other octets) own = refl
      stays (Becomes p node) own =
          elim (cases_Bool (same_path q p)) [
            | inl e ↦ absurd (true≢false (sym own ∙ ap (is_exclusive fp) (sym ((same_path-Decides q p).0 e)) ∙ h))
            | inr e ↦ ap (λ b. cond b node (node_at F q)) e
          ]

pub own_changes : OwnChanges
own_changes prefixes fp F slot item w = own_row fp slot prefixes F item w

pub frame_of_changes : FrameOfChanges
frame_of_changes prefixes fp F slot item q w h = untouched fp slot F (row prefixes F slot item).changes q (own_row fp slot prefixes F item w) h

-- ---- isolation

-- what B covers is not exclusive to A, where they do not conflict
pub not_exclusive : (A B : Footprint) (p : Path) → is_conflict A B ≡ false → is_covered B p ≡ true → is_exclusive A p ≡ false
not_exclusive A B p apart covered =
    elim (cases_Bool (is_exclusive A p)) [
      | inr h ↦ h
      | inl h ↦ absurd (true≢false (sym (meeting (any_in-from A.exclusive (λ e. is_at_or_below p e) h)) ∙ apart))
    ]
  where
    meeting : ((e : Path) × (set.contains A.exclusive e ≡ true) × (is_at_or_below p e ≡ true)) → is_conflict A B ≡ true
    meeting (e, ours, below) =
        elim (or_cases (is_exclusive B p) (set.contains B.shared p) covered) [
          | inr shared ↦ or_left (reaches A B) (reaches B A) (reaches_at A B e p ours (union_right B.exclusive B.shared p shared) below)
          | inl exclusive ↦ both (any_in-from B.exclusive (λ x. is_at_or_below p x) exclusive)
        ]
      where
        both : ((x : Path) × (set.contains B.exclusive x ≡ true) × (is_at_or_below p x ≡ true)) → is_conflict A B ≡ true
        both (x, theirs, under) =
            elim (prefixes_compare p e x below under) [
              | inl up ↦ or_right (reaches A B) (reaches B A) (reaches_at B A x e theirs (union_left A.exclusive A.shared e ours) up)
              | inr up ↦ or_left (reaches A B) (reaches B A) (reaches_at A B e x ours (union_left B.exclusive B.shared x theirs) up)
            ]

pub isolation : Isolation
isolation prefixes A B F slot item w apart p covered =
    sym (frame_of_changes prefixes A F slot item p w (not_exclusive A B p apart covered))
