-- Rows keep each key of the filestore a path.
--     IsKeyed change           what the change makes exist, if anything, is at a path
--     keys_after               such changes keep the keys paths
--     keyed_arriving           the new paths of a tree that moves, where none is too deep
--     keyed_create .. keyed_row          the changes of each row are such
--     keys_stay_paths
use Rattle.std.proofs.Common.{◌≡◌, refl, sym, ◌∙◌, ap, subst, ℕ, ◌+◌, ◌≤◌, Bool, true, false, cond, inl, inr, List, [], ◌∷◌, ◌++◌, length, arith}
use Rattle.std.specs.Prelude.{⊤, Option, Some, None, is_some, nat_lt, if◌then◌else◌}
use Rattle.std.specs.List.{AllByRecursion}
use Rattle.std.proofs.lemmas.Bool.{true≢false, cases_Bool, or_parts, ltb-false}
use Rattle.cfdp_status.specs.declared.action.Action.{Action}
use Rattle.cfdp_status.specs.declared.action.Action.TheVariants as action
use Rattle.cfdp_status.specs.declared.status.Status.TheVariants.{NotAllowed}
use Rattle.cfdp_status.proofs.Appended.{all-append}
use Rattle.cfdp_paths.specs.Paths.{Path, IsPath, same_path, is_at_or_below, rebased}
use Rattle.cfdp_paths.proofs.Comparing.{same_path-Decides}
use Rattle.cfdp_paths.proofs.Below.{length-rebased, length-at_or_below, IsPath-rebased}
use Rattle.cfdp_paths.specs.PathMaps.{is_too_deep}
use Rattle.cfdp_actions.specs.Filestore.{Node, Directory, File, Filestore, node_at, staged_in, Change, Becomes, Stages, changed, after, has_entries, parent_is_good, tree_at}
use Rattle.cfdp_actions.specs.Actions.{Item, Install, Perform, Request, CreateFile, DeleteFile, RenameFile, AppendFile, ReplaceFile, CreateDirectory, RemoveDirectory, DenyFile, DenyDirectory, refused, succeeds, create, delete_file, rename, vacating, arriving, append, replace, remove_directory, deny_file, deny_directory, install, table, free_row, is_barred, denied, row}
use Rattle.cfdp_leases.specs.Laws.{KeysArePaths, NamesPaths, KeysStayPaths}
use Rattle.cfdp_leases.proofs.ChangeFrame.{node_at-changed}
use Rattle.cfdp_leases.proofs.Rooted.{Of, tree_at-of}

-- ---- changes

abbrev pub IsKeyed : Change → Type 0
IsKeyed (Becomes p None) = ⊤
IsKeyed (Becomes p (Some node)) = IsPath p
IsKeyed (Stages slot octets) = ⊤

abbrev pub AreKeyed : List Change → Type 0
AreKeyed changes = AllByRecursion IsKeyed changes

keys_become : (F : Filestore) (p : Path) (what : Option Node) → IsKeyed (Becomes p what) → KeysArePaths F → KeysArePaths (changed F (Becomes p what))
keys_become F p what keyed keys x there =
    elim (cases_Bool (same_path x p)) [
      | inl here ↦ subst IsPath (sym ((same_path-Decides x p).0 here)) (placed what keyed
          (sym (ap is_some (node_at-changed F (Becomes p what) x ∙ ap (λ b. cond b what (node_at F x)) here)) ∙ there))
      | inr apart ↦ keys x (sym (ap is_some (node_at-changed F (Becomes p what) x ∙ ap (λ b. cond b what (node_at F x)) apart)) ∙ there)
    ]
  where
    placed : (node : Option Node) → IsKeyed (Becomes p node) → is_some node ≡ true → IsPath p
    placed None keyed some = absurd (true≢false (sym some))
    placed (Some node) keyed some = keyed

keys_change : (F : Filestore) (change : Change) → IsKeyed change → KeysArePaths F → KeysArePaths (changed F change)
keys_change F (Becomes p what) keyed keys = keys_become F p what keyed keys
keys_change F (Stages slot octets) keyed keys = keys

pub keys_after : (F : Filestore) (changes : List Change) → AreKeyed changes → KeysArePaths F → KeysArePaths (after F changes)
keys_after F [] keyed keys = keys
keys_after F (c ∷ cs) keyed keys = keys_after (changed F c) cs keyed.1 (keys_change F c keyed.0 keys)

-- ---- a tree that moves

keyed_vacated : (es : List (Path × Node)) → AreKeyed (vacating es)
keyed_vacated [] = tt
keyed_vacated (e ∷ es) = (tt, keyed_vacated es)

keyed_arriving : (F : Filestore) (p q : Path) (es : List (Path × Node)) → KeysArePaths F → IsPath q → AllByRecursion (Of F p) es → is_too_deep p q es
    ≡ false →
    AreKeyed (arriving p q es)
keyed_arriving F p q [] keys to each deep = tt
keyed_arriving F p q (e ∷ es) keys to each deep =
    let parts = or_parts (nat_lt 8 (length (rebased p q e.0))) (is_too_deep p q es) deep in
    let short : length (rebased p q e.0) ≤ 8 = ltb-false _ _ parts.0 in
    let above : length p ≤ length e.0 = length-at_or_below e.0 p each.0.0 in
    let room : length e.0 + length q ≤ 8 + length p = omega (arith, length-rebased p q e.0, short, above) in
    (IsPath-rebased p q e.0 room above to (keys e.0 (ap is_some each.0.1)), keyed_arriving F p q es keys to each.1 parts.1)

-- ---- rows

keyed_create : (action : Action) (node : Node) (p : Path) (x : Option Node) (good : Bool) → IsPath p → AreKeyed (create action node p x good).changes
unfolding create
keyed_create action node p (Some _) good w = tt
keyed_create action node p None false w = tt
keyed_create action node p None true w = (w, tt)

keyed_delete : (p : Path) (x : Option Node) → AreKeyed (delete_file p x).changes
unfolding delete_file
keyed_delete p None = tt
keyed_delete p (Some Directory) = tt
keyed_delete p (Some (File octets)) = (tt, tt)

keyed_rename : (F : Filestore) (p q : Path) (x y : Option Node) (good below : Bool) (es : List (Path × Node)) → KeysArePaths F → IsPath q →
    AllByRecursion (Of F p) es →
    AreKeyed (rename p q x y good below es).changes
unfolding rename
keyed_rename F p q None y good below es keys to each = tt
keyed_rename F p q (Some x) (Some y) good below es keys to each = tt
keyed_rename F p q (Some x) None false below es keys to each = tt
keyed_rename F p q (Some x) None true true es keys to each = tt
keyed_rename F p q (Some x) None true false es keys to each =
    (elim (is_too_deep p q es) as (λ deep. is_too_deep p q es ≡ deep → AreKeyed (if deep then refused (NotAllowed action.RenameFile)
    else succeeds action.RenameFile (vacating es ++ arriving p q es) 0 0 0).changes) [
      | true ↦ λ is. tt
      | false ↦ λ is. all-append IsKeyed (vacating es) (arriving p q es) (keyed_vacated es) (keyed_arriving F p q es keys to each is)
    ]) refl

keyed_append : (p : Path) (x y : Option Node) → IsPath p → AreKeyed (append p x y).changes
unfolding append
keyed_append p None y w = tt
keyed_append p (Some x) None w = tt
keyed_append p (Some Directory) (Some y) w = tt
keyed_append p (Some (File xs)) (Some Directory) w = tt
keyed_append p (Some (File xs)) (Some (File ys)) w = (w, tt)

keyed_replace : (p : Path) (same : Bool) (x y : Option Node) → IsPath p → AreKeyed (replace p same x y).changes
unfolding replace
keyed_replace p same None y w = tt
keyed_replace p same (Some x) None w = tt
keyed_replace p same (Some Directory) (Some y) w = tt
keyed_replace p same (Some (File xs)) (Some Directory) w = tt
keyed_replace p true (Some (File xs)) (Some (File ys)) w = tt
keyed_replace p false (Some (File xs)) (Some (File ys)) w = (w, tt)

keyed_remove : (p : Path) (x : Option Node) (entries : Bool) → AreKeyed (remove_directory p x entries).changes
unfolding remove_directory
keyed_remove p None entries = tt
keyed_remove p (Some (File octets)) entries = tt
keyed_remove p (Some Directory) true = tt
keyed_remove p (Some Directory) false = (tt, tt)

keyed_deny_file : (p : Path) (x : Option Node) → AreKeyed (deny_file p x).changes
unfolding deny_file
keyed_deny_file p None = tt
keyed_deny_file p (Some Directory) = tt
keyed_deny_file p (Some (File octets)) = (tt, tt)

keyed_deny_directory : (p : Path) (x : Option Node) (entries : Bool) → AreKeyed (deny_directory p x entries).changes
unfolding deny_directory
keyed_deny_directory p None entries = tt
keyed_deny_directory p (Some (File octets)) entries = tt
keyed_deny_directory p (Some Directory) true = tt
keyed_deny_directory p (Some Directory) false = (tt, tt)

keyed_install : (slot : ℕ) (p : Path) (octets : List ℕ) (x : Option Node) (good : Bool) → IsPath p → AreKeyed (install slot p octets x good).changes
unfolding install
keyed_install slot p octets None false w = tt
keyed_install slot p octets (Some x) false w = tt
keyed_install slot p octets (Some Directory) true w = tt
keyed_install slot p octets None true w = (tt, (w, tt))
keyed_install slot p octets (Some (File old)) true w = (tt, (w, tt))

module _ (F : Filestore) (keys : KeysArePaths F) where
  keyed_table : (request : Request) → NamesPaths (Perform request) → AreKeyed (table F request).changes
  unfolding table
  keyed_table (CreateFile p) w = keyed_create action.CreateFile (File []) p (node_at F p) (parent_is_good F p) w.0
  keyed_table (DeleteFile p) w = keyed_delete p (node_at F p)
  keyed_table (RenameFile p q) w =
      keyed_rename F p q (node_at F p) (node_at F q) (parent_is_good F q) (is_at_or_below q p) (tree_at F p) keys w.1.0 (tree_at-of F p)
  keyed_table (AppendFile p q) w = keyed_append p (node_at F p) (node_at F q) w.0
  keyed_table (ReplaceFile p q) w = keyed_replace p (same_path p q) (node_at F p) (node_at F q) w.0
  keyed_table (CreateDirectory p) w = keyed_create action.CreateDirectory Directory p (node_at F p) (parent_is_good F p) w.0
  keyed_table (RemoveDirectory p) w = keyed_remove p (node_at F p) (has_entries F p)
  keyed_table (DenyFile p) w = keyed_deny_file p (node_at F p)
  keyed_table (DenyDirectory p) w = keyed_deny_directory p (node_at F p) (has_entries F p)

  keyed_free_row : (slot : ℕ) (item : Item) → NamesPaths item → AreKeyed (free_row F slot item).changes
  unfolding free_row
  keyed_free_row slot (Install p) w = keyed_install slot p (staged_in F slot) (node_at F p) (parent_is_good F p) w.0
  keyed_free_row slot (Perform request) w = keyed_table request w

keyed_denied : (item : Item) → AreKeyed (denied item).changes
keyed_denied (Install p) = tt
keyed_denied (Perform request) = tt

keyed_row : (prefixes : List Path) (F : Filestore) (slot : ℕ) (item : Item) → NamesPaths item → KeysArePaths F → AreKeyed (row prefixes F slot item).changes
unfolding row
keyed_row prefixes F slot item w keys =
    elim (is_barred prefixes F item) as (λ b. AreKeyed (if b then denied item else free_row F slot item).changes) [
      | true ↦ keyed_denied item
      | false ↦ keyed_free_row F keys slot item w
    ]

pub keys_stay_paths : KeysStayPaths
keys_stay_paths prefixes F slot item w keys = keys_after F (row prefixes F slot item).changes (keyed_row prefixes F slot item w keys) keys
