-- Each row: its growth, and its ticks against the step bound.
use Rattle.std.proofs.Common.{◌≡◌, refl, ap, Bool, true, false, Option, Some, None, ℕ, ◌+◌, ◌*◌, ◌<◌, ◌≤◌, min, List, [], ◌++◌, length, arith, if◌then◌else◌, zero-le, le_refl}
use Rattle.cfdp_paths.specs.Paths.{Path, same_path, is_at_or_below}
use Rattle.cfdp_paths.specs.PathMaps.{is_too_deep}
use Rattle.cfdp_status.specs.declared.action.Action.{Action}
use Rattle.cfdp_status.specs.declared.action.Action.TheVariants as action
use Rattle.cfdp_status.specs.declared.status.Status.TheVariants.{NotAllowed}
use Rattle.cfdp_actions.specs.Filestore.{Node, Directory, File, Filestore, node_at, staged_in, blocks_of, weight, parent_is_good, has_entries, tree_at, IsRooted}
use Rattle.cfdp_actions.specs.Actions.{Request, CreateFile, DeleteFile, RenameFile, AppendFile, ReplaceFile, CreateDirectory, RemoveDirectory, DenyFile, DenyDirectory, Item, Install, Perform, Outcome, ticks, refused, succeeds, vacating, arriving, create, delete_file, rename, append, replace, remove_directory, deny_file, deny_directory, install, table, free_row, is_barred, denied, row}
use Rattle.cfdp_leases.specs.Items.{content, step_bound}
use Rattle.cfdp_actions.proofs.Growth.{Grows, create-grows, delete_file-grows, remove_directory-grows, deny_file-grows, deny_directory-grows, append-grows, replace-grows, install-grows, blocks_of-zero}
use Rattle.cfdp_actions.proofs.Moves.{rename-grows}

-- what holds of a row that is denied and of the free row holds of the row
pub row_cases : (P : Outcome → Type 0) (prefixes : List Path) (F : Filestore) (slot : ℕ) (item : Item) → P (denied item) → P (free_row F slot item) →
    P (row prefixes F slot item)
unfolding row
row_cases P prefixes F slot item if_denied if_free = elim (is_barred prefixes F item) as (λ b. P (if b then denied item else free_row F slot item)) [
  | true ↦
      if_denied
  | false ↦ if_free
]

-- ---- growth

denied-grows : (F : Filestore) (item : Item) → Grows F (denied item)
denied-grows F (Install p) = refl
denied-grows F (Perform request) = refl

one_file : weight (Some (File [])) ≡ 1
one_file = ap (λ n. 1 + n) blocks_of-zero

pub table-grows : (F : Filestore) (request : Request) → IsRooted F → Grows F (table F request)
unfolding table
table-grows F (CreateFile p) rooted = create-grows F action.CreateFile (File []) p (node_at F p) (parent_is_good F p) refl one_file
table-grows F (DeleteFile p) rooted = delete_file-grows F p (node_at F p) refl
table-grows F (RenameFile p q) rooted = rename-grows F p q (node_at F p) (node_at F q) (parent_is_good F q) (is_at_or_below q p) rooted refl refl
table-grows F (AppendFile p q) rooted = append-grows F p (node_at F p) (node_at F q) refl
table-grows F (ReplaceFile p q) rooted = replace-grows F p (same_path p q) (node_at F p) (node_at F q) refl
table-grows F (CreateDirectory p) rooted = create-grows F action.CreateDirectory Directory p (node_at F p) (parent_is_good F p) refl refl
table-grows F (RemoveDirectory p) rooted = remove_directory-grows F p (node_at F p) (has_entries F p) refl
table-grows F (DenyFile p) rooted = deny_file-grows F p (node_at F p) refl
table-grows F (DenyDirectory p) rooted = deny_directory-grows F p (node_at F p) (has_entries F p) refl

free_row-grows : (F : Filestore) (slot : ℕ) (item : Item) → IsRooted F → slot < length F.staged → Grows F (free_row F slot item)
unfolding free_row
free_row-grows F slot (Install p) rooted held = install-grows F slot p (node_at F p) (parent_is_good F p) held refl
free_row-grows F slot (Perform request) rooted held = table-grows F request rooted

-- the blocks after a row: those before, with those taken and without those given back
pub row-grows : (prefixes : List Path) (F : Filestore) (slot : ℕ) (item : Item) → IsRooted F → slot < length F.staged → Grows F (row prefixes F slot item)
row-grows prefixes F slot item rooted held = row_cases (Grows F) prefixes F slot item (denied-grows F item) (free_row-grows F slot item rooted held)

-- ---- ticks

create-ticks : (action : Action) (node : Node) (p : Path) (a : Option Node) (good : Bool) → ticks (create action node p a good) ≤ 1
unfolding create
create-ticks action node p (Some _) good = omega arith
create-ticks action node p None false = omega arith
create-ticks action node p None true = omega arith

delete_file-ticks : (p : Path) (a : Option Node) → ticks (delete_file p a) ≤ 1 + content a
unfolding delete_file
delete_file-ticks p None = omega arith
delete_file-ticks p (Some Directory) = omega arith
delete_file-ticks p (Some (File octets)) = omega arith

rename-ticks : (p q : Path) (a b : Option Node) (good below : Bool) (es : List (Path × Node)) → ticks (rename p q a b good below es) ≤ 0
unfolding rename
rename-ticks p q None b good below es = le_refl 0
rename-ticks p q (Some node) (Some other) good below es = le_refl 0
rename-ticks p q (Some node) None false below es = le_refl 0
rename-ticks p q (Some node) None true true es = le_refl 0
rename-ticks p q (Some node) None true false es =
    elim (is_too_deep p q es) as (λ deep. ticks (if deep then refused (NotAllowed action.RenameFile)
    else succeeds action.RenameFile (vacating es ++ arriving p q es) 0 0 0) ≤ 0) [ true ↦ le_refl 0 | false ↦ le_refl 0 ]

-- to append n octets to m takes no more blocks than n octets do
blocks_of-add : (m n : ℕ) → blocks_of (m + n) ≤ blocks_of m + blocks_of n
unfolding blocks_of
blocks_of-add m n = omega arith

append-ticks : (p : Path) (a b : Option Node) → ticks (append p a b) ≤ 2 * content b
unfolding append
append-ticks p None b = zero-le
append-ticks p (Some a) None = omega arith
append-ticks p (Some Directory) (Some b) = zero-le
append-ticks p (Some (File xs)) (Some Directory) = omega arith
append-ticks p (Some (File xs)) (Some (File ys)) = omega (arith, blocks_of-add (length xs) (length ys))

replace-ticks : (p : Path) (same : Bool) (a b : Option Node) → ticks (replace p same a b) ≤ (if same then 0 else content a + 2 * content b)
unfolding replace
replace-ticks p true None b = le_refl 0
replace-ticks p false None b = zero-le
replace-ticks p true (Some a) None = le_refl 0
replace-ticks p false (Some a) None = zero-le
replace-ticks p true (Some Directory) (Some b) = le_refl 0
replace-ticks p false (Some Directory) (Some b) = zero-le
replace-ticks p true (Some (File xs)) (Some Directory) = le_refl 0
replace-ticks p false (Some (File xs)) (Some Directory) = zero-le
replace-ticks p true (Some (File xs)) (Some (File ys)) = le_refl 0
replace-ticks p false (Some (File xs)) (Some (File ys)) = omega arith

remove_directory-ticks : (p : Path) (a : Option Node) (entries : Bool) → ticks (remove_directory p a entries) ≤ 1
unfolding remove_directory
remove_directory-ticks p None entries = zero-le
remove_directory-ticks p (Some (File octets)) entries = zero-le
remove_directory-ticks p (Some Directory) true = zero-le
remove_directory-ticks p (Some Directory) false = le_refl 1

deny_file-ticks : (p : Path) (a : Option Node) → ticks (deny_file p a) ≤ weight a
unfolding deny_file
deny_file-ticks p None = zero-le
deny_file-ticks p (Some Directory) = zero-le
deny_file-ticks p (Some (File octets)) = omega arith

deny_directory-ticks : (p : Path) (a : Option Node) (entries : Bool) → ticks (deny_directory p a entries) ≤ min 1 (weight a)
unfolding deny_directory
deny_directory-ticks p None entries = zero-le
deny_directory-ticks p (Some (File octets)) entries = zero-le
deny_directory-ticks p (Some Directory) true = zero-le
deny_directory-ticks p (Some Directory) false = le_refl 1

install-ticks : (slot : ℕ) (p : Path) (octets : List ℕ) (a : Option Node) (good : Bool) → ticks (install slot p octets a good) ≤ 1 + content a
unfolding install
install-ticks slot p octets None false = zero-le
install-ticks slot p octets (Some node) false = zero-le
install-ticks slot p octets (Some Directory) true = zero-le
install-ticks slot p octets None true = omega arith
install-ticks slot p octets (Some (File old)) true = omega arith

table-ticks : (F : Filestore) (request : Request) → ticks (table F request) ≤ step_bound F (Perform request)
unfolding table step_bound
table-ticks F (CreateFile p) = create-ticks action.CreateFile (File []) p (node_at F p) (parent_is_good F p)
table-ticks F (DeleteFile p) = delete_file-ticks p (node_at F p)
table-ticks F (RenameFile p q) = rename-ticks p q (node_at F p) (node_at F q) (parent_is_good F q) (is_at_or_below q p) (tree_at F p)
table-ticks F (AppendFile p q) = append-ticks p (node_at F p) (node_at F q)
table-ticks F (ReplaceFile p q) = replace-ticks p (same_path p q) (node_at F p) (node_at F q)
table-ticks F (CreateDirectory p) = create-ticks action.CreateDirectory Directory p (node_at F p) (parent_is_good F p)
table-ticks F (RemoveDirectory p) = remove_directory-ticks p (node_at F p) (has_entries F p)
table-ticks F (DenyFile p) = deny_file-ticks p (node_at F p)
table-ticks F (DenyDirectory p) = deny_directory-ticks p (node_at F p) (has_entries F p)

free_row-ticks : (F : Filestore) (slot : ℕ) (item : Item) → ticks (free_row F slot item) ≤ step_bound F item
unfolding free_row step_bound
free_row-ticks F slot (Install p) = install-ticks slot p (staged_in F slot) (node_at F p) (parent_is_good F p)
free_row-ticks F slot (Perform request) = table-ticks F request

denied-ticks : (item : Item) (n : ℕ) → ticks (denied item) ≤ n
denied-ticks (Install p) n = zero-le
denied-ticks (Perform request) n = zero-le

pub row-ticks : (prefixes : List Path) (F : Filestore) (slot : ℕ) (item : Item) → ticks (row prefixes F slot item) ≤ step_bound F item
row-ticks prefixes F slot item = row_cases (λ o. ticks o ≤ step_bound F item) prefixes F slot item (denied-ticks item (step_bound F item))
    (free_row-ticks F slot item)
