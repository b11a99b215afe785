-- What a row of the action table that is not refused asks of the filestore, and what it does.
--     Allowed F request         the row is successful
--     IsRow o ..                what a row answers and changes, its ticks, and the blocks that it takes and gives back
--     file_made, directory_made, made_takes    an empty node is made where nothing exists and the parent is good
--     removed, denied           what is at the path goes, a directory only without entries;  or nothing was there
--     moved                     a tree moves
--     appended, replaced        one file is joined with another;  replace_room, replace_fits: nothing is taken where both names are one
--     successful                the answer of any such row;  takes_nothing: the rows that take no block
--     performs                  the answer of such a request, where nothing bars it and its blocks are free
use Rattle.std.proofs.Common.{◌≡◌, ◌≢◌, refl, sym, ◌∙◌, ap, subst, ◌⊎◌, inl, inr, ℕ, ◌+◌, ◌-◌, ◌*◌, ◌≤◌, Bool, true, false, if◌then◌else◌, nat_le, IsTrue, is_some, is_none, List, [], ◌∷◌, ◌++◌, Option, Some, None, length, arith}
use Rattle.std.proofs.lemmas.Bool.{le-leb, leb-true, false≢true}
use Rattle.cfdp_status.specs.declared.status.Status.TheVariants.{Successful, NotAllowed}
use Rattle.cfdp_status.specs.declared.action.Action.TheVariants as action
use Rattle.cfdp_status.specs.declared.action.Action.{Action}
use Rattle.cfdp_paths.specs.Paths.{Path, same_path, is_at_or_below}
use Rattle.cfdp_paths.proofs.Comparing.{same_path-Decides}
use Rattle.cfdp_paths.specs.PathMaps.{is_too_deep}
use Rattle.cfdp_actions.specs.Filestore.{Node, Directory, File, Filestore, node_at, octets_in, file_octets_at, is_directory, is_file, blocks_of, weight, Change, Becomes, has_entries, parent_is_good, tree_at}
use Rattle.cfdp_actions.specs.Actions.{Request, CreateFile, DeleteFile, RenameFile, AppendFile, ReplaceFile, CreateDirectory, RemoveDirectory, DenyFile, DenyDirectory, action_in, Perform, Performed, Outcome, bars, denied as denied_outcome, within, act, succeeded, ticks, refused, succeeds, create, delete_file, vacating, arriving, rename, append, replace, remove_directory, deny_file, deny_directory, table}

abbrev pub Allowed : Filestore → Request → Type 0
Allowed F request = IsTrue (succeeded (table F request).answer)

pub record IsRow (action : Action) (o : Outcome) (writes : List Change) (count takes gives : ℕ) : Type 0 where
  pub answer : o.answer ≡ Performed (Successful action)
  pub changes : o.changes ≡ writes
  pub counted : ticks o ≡ count
  pub taken : o.taken ≡ takes
  pub given : o.given ≡ gives

succeeded_row : (action : Action) (changes : List Change) (taken given moved count : ℕ) → taken + given + moved ≡ count →
    IsRow action (succeeds action changes taken given moved) changes count taken given
succeeded_row action changes taken given moved count e = record { answer = refl; changes = refl; counted = e; taken = refl; given = refl }

-- a fact on the row of another request that is the same
row_of : (F : Filestore) (Q : Action → Outcome → Type 0) (request other : Request) → (Allowed F other → Q (action_in other) (table F other)) →
    Allowed F request → request ≡ other → Q (action_in request) (table F request)
row_of F Q request other f h e = subst (λ r. Q (action_in r) (table F r)) (sym e) (f (subst (Allowed F) e h))

-- ---- create

pub record Makes (F : Filestore) (p : Path) (node : Node) (action : Action) (o : Outcome) : Type 0 where
  pub absent : node_at F p ≡ None
  pub parent : parent_is_good F p ≡ true
  pub row : IsRow action o (Becomes p (Some node) ∷ []) 1 1 0

made : (action : Action) (node : Node) (p : Path) (o : Option Node) (good : Bool) → IsTrue (succeeded (create action node p o good).answer) → (o ≡ None)
    × (good ≡ true) × IsRow action (create action node p o good) (Becomes p (Some node) ∷ []) 1 1 0
unfolding create
made action node p (Some other) good h = absurd (false≢true h)
made action node p None false h = absurd (false≢true h)
made action node p None true h = (refl, refl, succeeded_row _ _ _ _ _ _ refl)

pub file_made : (F : Filestore) (request : Request) (p : Path) → Allowed F request → request ≡ CreateFile p →
    Makes F p (File []) (action_in request) (table F request)
unfolding table
file_made F request p = row_of F (Makes F p (File [])) request (CreateFile p) (λ h.
    let facts = made action.CreateFile (File []) p (node_at F p) (parent_is_good F p) h in
    record { absent = facts.0; parent = facts.1; row = facts.2 })

pub directory_made : (F : Filestore) (request : Request) (p : Path) → Allowed F request → request ≡ CreateDirectory p →
    Makes F p Directory (action_in request) (table F request)
unfolding table
directory_made F request p = row_of F (Makes F p Directory) request (CreateDirectory p) (λ h.
    let facts = made action.CreateDirectory Directory p (node_at F p) (parent_is_good F p) h in
    record { absent = facts.0; parent = facts.1; row = facts.2 })

pub made_takes : (F : Filestore) (request : Request) → Allowed F request →
    ((p : Path) × (request ≡ CreateFile p)) ⊎ ((p : Path) × (request ≡ CreateDirectory p)) →
    ((table F request).taken ≡ 1) × ((table F request).given ≡ 0)
made_takes F request h (inl e) = let row = (file_made F request e.0 h e.1).row in (row.taken, row.given)
made_takes F request h (inr e) = let row = (directory_made F request e.0 h e.1).row in (row.taken, row.given)

-- ---- remove

abbrev Childless : Option Node → Bool → Type 0
Childless o entries = IsTrue (is_directory o) → entries ≡ false

pub record Goes (F : Filestore) (p : Path) (action : Action) (o : Outcome) : Type 0 where
  pub present : is_some (node_at F p) ≡ true
  pub childless : Childless (node_at F p) (has_entries F p)
  pub row : IsRow action o (Becomes p None ∷ []) (weight (node_at F p)) 0 (weight (node_at F p))

pub record IsDenied (F : Filestore) (p : Path) (action : Action) (o : Outcome) : Type 0 where
  pub childless : Childless (node_at F p) (has_entries F p)
  pub row : IsRow action o (if is_none (node_at F p) then [] else Becomes p None ∷ []) (weight (node_at F p)) 0 (weight (node_at F p))

file_gone : (p : Path) (o : Option Node) (entries : Bool) → IsTrue (succeeded (delete_file p o).answer) → (is_some o ≡ true) × Childless o entries
    × IsRow action.DeleteFile (delete_file p o) (Becomes p None ∷ []) (weight o) 0 (weight o)
unfolding delete_file
file_gone p None entries h = absurd (false≢true h)
file_gone p (Some Directory) entries h = absurd (false≢true h)
file_gone p (Some (File octets)) entries h = (refl, λ e. absurd (false≢true e), succeeded_row _ _ _ _ _ _ (omega arith))

directory_gone : (p : Path) (o : Option Node) (entries : Bool) → IsTrue (succeeded (remove_directory p o entries).answer) → (is_some o ≡ true)
    × Childless o entries × IsRow action.RemoveDirectory (remove_directory p o entries) (Becomes p None ∷ []) (weight o) 0 (weight o)
unfolding remove_directory
directory_gone p None entries h = absurd (false≢true h)
directory_gone p (Some (File octets)) entries h = absurd (false≢true h)
directory_gone p (Some Directory) true h = absurd (false≢true h)
directory_gone p (Some Directory) false h = (refl, λ e. refl, succeeded_row _ _ _ _ _ _ refl)

file_denied : (p : Path) (o : Option Node) (entries : Bool) → IsTrue (succeeded (deny_file p o).answer) → Childless o entries
    × IsRow action.DenyFile (deny_file p o) (if is_none o then [] else Becomes p None ∷ []) (weight o) 0 (weight o)
unfolding deny_file
file_denied p None entries h = (λ e. absurd (false≢true e), succeeded_row _ _ _ _ _ _ refl)
file_denied p (Some Directory) entries h = absurd (false≢true h)
file_denied p (Some (File octets)) entries h = (λ e. absurd (false≢true e), succeeded_row _ _ _ _ _ _ (omega arith))

directory_denied : (p : Path) (o : Option Node) (entries : Bool) → IsTrue (succeeded (deny_directory p o entries).answer) → Childless o entries
    × IsRow action.DenyDirectory (deny_directory p o entries) (if is_none o then [] else Becomes p None ∷ []) (weight o) 0 (weight o)
unfolding deny_directory
directory_denied p None entries h = (λ e. absurd (false≢true e), succeeded_row _ _ _ _ _ _ refl)
directory_denied p (Some (File octets)) entries h = absurd (false≢true h)
directory_denied p (Some Directory) true h = absurd (false≢true h)
directory_denied p (Some Directory) false h = (λ e. refl, succeeded_row _ _ _ _ _ _ refl)

pub removed : (F : Filestore) (request : Request) (p : Path) → Allowed F request → (request ≡ DeleteFile p) ⊎ (request ≡ RemoveDirectory p) →
    Goes F p (action_in request) (table F request)
unfolding table
removed F request p h (inl e) = row_of F (Goes F p) request (DeleteFile p) (λ h.
    let facts = file_gone p (node_at F p) (has_entries F p) h in
    record { present = facts.0; childless = facts.1; row = facts.2 }) h e
removed F request p h (inr e) = row_of F (Goes F p) request (RemoveDirectory p) (λ h.
    let facts = directory_gone p (node_at F p) (has_entries F p) h in
    record { present = facts.0; childless = facts.1; row = facts.2 }) h e

pub denied : (F : Filestore) (request : Request) (p : Path) → Allowed F request → (request ≡ DenyFile p) ⊎ (request ≡ DenyDirectory p) →
    IsDenied F p (action_in request) (table F request)
unfolding table
denied F request p h (inl e) = row_of F (IsDenied F p) request (DenyFile p) (λ h.
    let facts = file_denied p (node_at F p) (has_entries F p) h in
    record { childless = facts.0; row = facts.1 }) h e
denied F request p h (inr e) = row_of F (IsDenied F p) request (DenyDirectory p) (λ h.
    let facts = directory_denied p (node_at F p) (has_entries F p) h in
    record { childless = facts.0; row = facts.1 }) h e

-- ---- rename

pub record Moves (F : Filestore) (p q : Path) (o : Outcome) : Type 0 where
  pub present : is_some (node_at F p) ≡ true
  pub absent : node_at F q ≡ None
  pub parent : parent_is_good F q ≡ true
  pub apart : is_at_or_below q p ≡ false
  pub depth : is_too_deep p q (tree_at F p) ≡ false
  pub row : IsRow action.RenameFile o (vacating (tree_at F p) ++ arriving p q (tree_at F p)) 0 0 0

shallow : (changes : List Change) (deep : Bool) (o : Outcome) → o ≡ (if deep then refused (NotAllowed action.RenameFile)
    else succeeds action.RenameFile changes 0 0 0) → IsTrue (succeeded o.answer) → (deep ≡ false) × IsRow action.RenameFile o changes 0 0 0
shallow changes true o e h = absurd (false≢true (subst (λ (o : Outcome). IsTrue (succeeded o.answer)) e h))
shallow changes false o e h = (refl, subst (λ o. IsRow action.RenameFile o changes 0 0 0) (sym e) (succeeded_row _ _ _ _ _ _ refl))

tree_moved : (p q : Path) (a b : Option Node) (good below : Bool) (es : List (Path × Node)) → IsTrue (succeeded (rename p q a b good below es).answer) →
    (is_some a ≡ true) × (b ≡ None) × (good ≡ true) × (below ≡ false) × (is_too_deep p q es ≡ false)
    × IsRow action.RenameFile (rename p q a b good below es) (vacating es ++ arriving p q es) 0 0 0
unfolding rename
tree_moved p q None b good below es h = absurd (false≢true h)
tree_moved p q (Some node) (Some other) good below es h = absurd (false≢true h)
tree_moved p q (Some node) None false below es h = absurd (false≢true h)
tree_moved p q (Some node) None true true es h = absurd (false≢true h)
tree_moved p q (Some node) None true false es h =
    let facts = shallow (vacating es ++ arriving p q es) (is_too_deep p q es) _ refl h in
    (refl, refl, refl, refl, facts.0, facts.1)

pub moved : (F : Filestore) (request : Request) (p q : Path) → Allowed F request → request ≡ RenameFile p q → Moves F p q (table F request)
unfolding table
moved F request p q = row_of F (λ _. Moves F p q) request (RenameFile p q) (λ h.
    let facts = tree_moved p q (node_at F p) (node_at F q) (parent_is_good F q) (is_at_or_below q p) (tree_at F p) h in
    record { present = facts.0; absent = facts.1; parent = facts.2; apart = facts.3; depth = facts.4; row = facts.5 })

-- ---- append and replace

abbrev pub size : Filestore → Path → ℕ
size F p = length (file_octets_at F p)

pub record Appends (F : Filestore) (p q : Path) (o : Outcome) : Type 0 where
  pub first : is_file (node_at F p) ≡ true
  pub second : is_file (node_at F q) ≡ true
  pub row : IsRow action.AppendFile o (Becomes p (Some (File (file_octets_at F p ++ file_octets_at F q))) ∷ [])
      ((blocks_of (size F p + size F q) - blocks_of (size F p))
      + blocks_of (size F q)) (blocks_of (size F p + size F q) - blocks_of (size F p)) 0

-- nothing is taken or given back where both names are one
pub record Replaces (F : Filestore) (p q : Path) (o : Outcome) : Type 0 where
  pub first : is_file (node_at F p) ≡ true
  pub second : is_file (node_at F q) ≡ true
  pub row : IsRow action.ReplaceFile o (if same_path p q then [] else Becomes p (Some (File (file_octets_at F q))) ∷ []) (if same_path p q then 0
      else blocks_of (size F p) + 2 * blocks_of (size F q)) (if same_path p q then 0 else blocks_of (size F q)) (if same_path p q then 0
      else blocks_of (size F p))

file_appended : (p : Path) (a b : Option Node) → IsTrue (succeeded (append p a b).answer) → let n = length (octets_in a) in let m = length (octets_in b) in
    (is_file a ≡ true) × (is_file b ≡ true) × IsRow action.AppendFile (append p a b) (Becomes p (Some (File (octets_in a ++ octets_in b))) ∷ [])
    ((blocks_of (n + m) - blocks_of n) + blocks_of m) (blocks_of (n + m) - blocks_of n) 0
unfolding append
file_appended p None b h = absurd (false≢true h)
file_appended p (Some a) None h = absurd (false≢true h)
file_appended p (Some Directory) (Some b) h = absurd (false≢true h)
file_appended p (Some (File xs)) (Some Directory) h = absurd (false≢true h)
file_appended p (Some (File xs)) (Some (File ys)) h = (refl, refl, succeeded_row _ _ _ _ _ _ (omega arith))

file_replaced : (p : Path) (same : Bool) (a b : Option Node) → IsTrue (succeeded (replace p same a b).answer) → let n = length (octets_in a) in let m =
    length (octets_in b) in
    (is_file a ≡ true) × (is_file b ≡ true) × IsRow action.ReplaceFile (replace p same a b) (if same then [] else Becomes p (Some (File (octets_in b))) ∷ [])
    (if same then 0 else blocks_of n + 2 * blocks_of m) (if same then 0 else blocks_of m) (if same then 0 else blocks_of n)
unfolding replace
file_replaced p same None b h = absurd (false≢true h)
file_replaced p same (Some a) None h = absurd (false≢true h)
file_replaced p same (Some Directory) (Some b) h = absurd (false≢true h)
file_replaced p same (Some (File xs)) (Some Directory) h = absurd (false≢true h)
file_replaced p true (Some (File xs)) (Some (File ys)) h = (refl, refl, succeeded_row _ _ _ _ _ _ refl)
file_replaced p false (Some (File xs)) (Some (File ys)) h = (refl, refl, succeeded_row _ _ _ _ _ _ (omega arith))

pub appended : (F : Filestore) (request : Request) (p q : Path) → Allowed F request → request ≡ AppendFile p q → Appends F p q (table F request)
unfolding table
appended F request p q = row_of F (λ _. Appends F p q) request (AppendFile p q) (λ h.
    let facts = file_appended p (node_at F p) (node_at F q) h in
    record { first = facts.0; second = facts.1; row = facts.2 })

pub replaced : (F : Filestore) (request : Request) (p q : Path) → Allowed F request → request ≡ ReplaceFile p q → Replaces F p q (table F request)
unfolding table
replaced F request p q = row_of F (λ _. Replaces F p q) request (ReplaceFile p q) (λ h.
    let facts = file_replaced p (same_path p q) (node_at F p) (node_at F q) h in
    record { first = facts.0; second = facts.1; row = facts.2 })

-- both names are one, or the row takes and gives back what the test of room counts
pub replace_room : (F : Filestore) (p q : Path) (free : ℕ) (o : Outcome) → Replaces F p q o → nat_le (blocks_of (size F q)) (free + blocks_of (size F p))
    ≡ nat_le o.taken (free + o.given)
replace_room F p q free o r =
    by_same (same_path p q) refl ∙ sym (λ i. nat_le (r.row.taken i) (free + r.row.given i))
  where
    by_same : (same : Bool) → same_path p q ≡ same → nat_le (blocks_of (size F q)) (free + blocks_of (size F p))
        ≡ nat_le (if same then 0 else blocks_of (size F q)) (free + (if same then 0 else blocks_of (size F p)))
    by_same true e = le-leb (blocks_of (size F q)) (free + blocks_of (size F p)) (omega (arith, ap (λ x. blocks_of (size F x)) ((same_path-Decides p q).0 e)))
        ∙ sym (le-leb 0 (free + 0) (omega arith))
    by_same false e = refl

pub replace_fits : (F : Filestore) (p q : Path) (free : ℕ) (o : Outcome) → Replaces F p q o → o.taken ≤ free + o.given → blocks_of (size F q) ≤ free
    + blocks_of (size F p)
replace_fits F p q free o r fits = leb-true _ _ (replace_room F p q free o r ∙ le-leb _ _ fits)

-- ---- any row

pub successful : (F : Filestore) (request : Request) → Allowed F request → (table F request).answer ≡ Performed (Successful (action_in request))
successful F (CreateFile p) h = (file_made F (CreateFile p) p h refl).row.answer
successful F (DeleteFile p) h = (removed F (DeleteFile p) p h (inl refl)).row.answer
successful F (RenameFile p q) h = (moved F (RenameFile p q) p q h refl).row.answer
successful F (AppendFile p q) h = (appended F (AppendFile p q) p q h refl).row.answer
successful F (ReplaceFile p q) h = (replaced F (ReplaceFile p q) p q h refl).row.answer
successful F (CreateDirectory p) h = (directory_made F (CreateDirectory p) p h refl).row.answer
successful F (RemoveDirectory p) h = (removed F (RemoveDirectory p) p h (inr refl)).row.answer
successful F (DenyFile p) h = (denied F (DenyFile p) p h (inl refl)).row.answer
successful F (DenyDirectory p) h = (denied F (DenyDirectory p) p h (inr refl)).row.answer

-- where nothing bars it and its blocks are free
pub performs : (prefixes : List Path) (F : Filestore) (free : ℕ) (request : Request) → Allowed F request → bars prefixes request ≡ false →
    nat_le (table F request).taken (free + (table F request).given) ≡ true → (act prefixes F free request).answer ≡ Performed (Successful (action_in request))
performs prefixes F free request h unbarred fits =
    ap (λ b. (within free (Perform request) (if b then denied_outcome (Perform request) else table F request)).answer) unbarred
    ∙ ap (λ b. (if b then table F request else denied_outcome (Perform request)).answer) fits
    ∙ successful F request h

pub takes_nothing : (F : Filestore) (request : Request) → Allowed F request → ((p : Path) → request ≢ CreateFile p) → ((p : Path) → request
    ≢ CreateDirectory p) → ((p q : Path) → request ≢ AppendFile p q) → ((p q : Path) → request ≢ ReplaceFile p q) → (table F request).taken ≡ 0
takes_nothing F (CreateFile p) h file directory append replace = absurd (file p refl)
takes_nothing F (DeleteFile p) h file directory append replace = (removed F (DeleteFile p) p h (inl refl)).row.taken
takes_nothing F (RenameFile p q) h file directory append replace = (moved F (RenameFile p q) p q h refl).row.taken
takes_nothing F (AppendFile p q) h file directory append replace = absurd (append p q refl)
takes_nothing F (ReplaceFile p q) h file directory append replace = absurd (replace p q refl)
takes_nothing F (CreateDirectory p) h file directory append replace = absurd (directory p refl)
takes_nothing F (RemoveDirectory p) h file directory append replace = (removed F (RemoveDirectory p) p h (inr refl)).row.taken
takes_nothing F (DenyFile p) h file directory append replace = (denied F (DenyFile p) p h (inl refl)).row.taken
takes_nothing F (DenyDirectory p) h file directory append replace = (denied F (DenyDirectory p) p h (inr refl)).row.taken
