-- What the action table's rows have in common: a request's row has a status, the install's has none, and only an install
-- stages, in its own slot.
use Rattle.std.proofs.Common.{◌≡◌, ℕ, ◌<◌, List, [], ◌∷◌, ◌++◌, length, refl, get_or-set_same}
use Rattle.std.specs.Prelude.{⊤, Option, Some, None, Bool, true, false, IsTrue}
use Rattle.std.specs.List.{AllByRecursion}
use Rattle.std.proofs.lemmas.Bool.{cond_both}
use Rattle.cfdp_status.specs.declared.action.Action.{Action}
use Rattle.cfdp_paths.specs.Paths.{Path}
use Rattle.cfdp_paths.specs.PathMaps.{is_too_deep}
use Rattle.cfdp_actions.specs.Filestore.{Node, Directory, File, Filestore, staged_in, Change, Becomes, Stages, changed, after}
use Rattle.cfdp_actions.specs.Actions.{Item, Install, Perform, Request, CreateFile, DeleteFile, RenameFile, AppendFile, ReplaceFile, CreateDirectory, RemoveDirectory, DenyFile, DenyDirectory, Answer, Performed, Installed, NotInstalled, Outcome, create, delete_file, vacating, arriving, rename, append, replace, remove_directory, deny_file, deny_directory, install, table, free_row, row, is_barred, succeeded}
use Rattle.cfdp_leases.specs.Items.{performed}
use Rattle.cfdp_transactions.proofs.SlotChanges.{IsInSlot}

-- an outcome that has a status, or none
abbrev pub HasStatus : Answer → Type 0
HasStatus (Performed status) = ⊤
HasStatus Installed = ⊥
HasStatus NotInstalled = ⊥

abbrev pub HasNone : Answer → Type 0
HasNone (Performed status) = ⊥
HasNone Installed = ⊤
HasNone NotInstalled = ⊤

-- changes of paths alone
abbrev pub IsOfPath : Change → Type 0
IsOfPath (Becomes p what) = ⊤
IsOfPath (Stages slot octets) = ⊥

pub record IsOfRequest (o : Outcome) : Type 0 where
  pub answer : HasStatus o.answer
  pub changes : AllByRecursion IsOfPath o.changes

vacated_paths : (es : List (Path × Node)) (cs : List Change) → AllByRecursion IsOfPath cs → AllByRecursion IsOfPath (vacating es ++ cs)
vacated_paths [] cs h = h
vacated_paths (e ∷ es) cs h = (tt, vacated_paths es cs h)

arriving_paths : (p q : Path) (es : List (Path × Node)) → AllByRecursion IsOfPath (arriving p q es)
arriving_paths p q [] = tt
arriving_paths p q (e ∷ es) = (tt, arriving_paths p q es)

of_create : (a : Action) (node : Node) (p : Path) (there : Option Node) (good : Bool) → IsOfRequest (create a node p there good)
unfolding create
of_create a node p (Some _) good = record { answer = tt; changes = tt }
of_create a node p None false = record { answer = tt; changes = tt }
of_create a node p None true = record { answer = tt; changes = (tt, tt) }

of_delete : (p : Path) (there : Option Node) → IsOfRequest (delete_file p there)
unfolding delete_file
of_delete p None = record { answer = tt; changes = tt }
of_delete p (Some Directory) = record { answer = tt; changes = tt }
of_delete p (Some (File octets)) = record { answer = tt; changes = (tt, tt) }

of_rename : (p q : Path) (there taken : Option Node) (good below : Bool) (es : List (Path × Node)) → IsOfRequest (rename p q there taken good below es)
unfolding rename
of_rename p q None _ good below es = record { answer = tt; changes = tt }
of_rename p q (Some node) (Some _) good below es = record { answer = tt; changes = tt }
of_rename p q (Some node) None false below es = record { answer = tt; changes = tt }
of_rename p q (Some node) None true true es = record { answer = tt; changes = tt }
of_rename p q (Some node) None true false es =
    cond_both (is_too_deep p q es) _ _ IsOfRequest (λ _. record { answer = tt; changes = tt })
    (λ _. record { answer = tt; changes = vacated_paths es (arriving p q es) (arriving_paths p q es) })

of_append : (p : Path) (there other : Option Node) → IsOfRequest (append p there other)
unfolding append
of_append p None _ = record { answer = tt; changes = tt }
of_append p (Some a) None = record { answer = tt; changes = tt }
of_append p (Some Directory) (Some b) = record { answer = tt; changes = tt }
of_append p (Some (File xs)) (Some Directory) = record { answer = tt; changes = tt }
of_append p (Some (File xs)) (Some (File ys)) = record { answer = tt; changes = (tt, tt) }

of_replace : (p : Path) (same : Bool) (there other : Option Node) → IsOfRequest (replace p same there other)
unfolding replace
of_replace p same None _ = record { answer = tt; changes = tt }
of_replace p same (Some a) None = record { answer = tt; changes = tt }
of_replace p same (Some Directory) (Some b) = record { answer = tt; changes = tt }
of_replace p same (Some (File xs)) (Some Directory) = record { answer = tt; changes = tt }
of_replace p true (Some (File xs)) (Some (File ys)) = record { answer = tt; changes = tt }
of_replace p false (Some (File xs)) (Some (File ys)) = record { answer = tt; changes = (tt, tt) }

of_remove : (p : Path) (there : Option Node) (entries : Bool) → IsOfRequest (remove_directory p there entries)
unfolding remove_directory
of_remove p None entries = record { answer = tt; changes = tt }
of_remove p (Some (File octets)) entries = record { answer = tt; changes = tt }
of_remove p (Some Directory) true = record { answer = tt; changes = tt }
of_remove p (Some Directory) false = record { answer = tt; changes = (tt, tt) }

of_deny_file : (p : Path) (there : Option Node) → IsOfRequest (deny_file p there)
unfolding deny_file
of_deny_file p None = record { answer = tt; changes = tt }
of_deny_file p (Some Directory) = record { answer = tt; changes = tt }
of_deny_file p (Some (File octets)) = record { answer = tt; changes = (tt, tt) }

of_deny_directory : (p : Path) (there : Option Node) (entries : Bool) → IsOfRequest (deny_directory p there entries)
unfolding deny_directory
of_deny_directory p None entries = record { answer = tt; changes = tt }
of_deny_directory p (Some (File octets)) entries = record { answer = tt; changes = tt }
of_deny_directory p (Some Directory) true = record { answer = tt; changes = tt }
of_deny_directory p (Some Directory) false = record { answer = tt; changes = (tt, tt) }

of_table : (F : Filestore) (request : Request) → IsOfRequest (table F request)
unfolding table
of_table F (CreateFile p) = of_create _ _ _ _ _
of_table F (DeleteFile p) = of_delete _ _
of_table F (RenameFile p q) = of_rename _ _ _ _ _ _ _
of_table F (AppendFile p q) = of_append _ _ _
of_table F (ReplaceFile p q) = of_replace _ _ _ _
of_table F (CreateDirectory p) = of_create _ _ _ _ _
of_table F (RemoveDirectory p) = of_remove _ _ _
of_table F (DenyFile p) = of_deny_file _ _
of_table F (DenyDirectory p) = of_deny_directory _ _ _

pub row_of_request : (prefixes : List Path) (F : Filestore) (slot : ℕ) (request : Request) → IsOfRequest (row prefixes F slot (Perform request))
unfolding row free_row
row_of_request prefixes F slot request =
    cond_both (is_barred prefixes F (Perform request)) _ _ IsOfRequest (λ _. record { answer = tt; changes = tt }) (λ _. of_table F request)

pub record IsOfInstall (slot : ℕ) (o : Outcome) : Type 0 where
  pub answer : HasNone o.answer
  pub changes : AllByRecursion (IsInSlot slot) o.changes

of_install : (slot : ℕ) (p : Path) (octets : List ℕ) (there : Option Node) (good : Bool) → IsOfInstall slot (install slot p octets there good)
unfolding install
of_install slot p octets None false = record { answer = tt; changes = tt }
of_install slot p octets (Some what) false = record { answer = tt; changes = tt }
of_install slot p octets (Some Directory) true = record { answer = tt; changes = tt }
of_install slot p octets None true = record { answer = tt; changes = (refl, (tt, tt)) }
of_install slot p octets (Some (File old)) true = record { answer = tt; changes = (refl, (tt, tt)) }

pub row_of_install : (prefixes : List Path) (F : Filestore) (slot : ℕ) (p : Path) → IsOfInstall slot (row prefixes F slot (Install p))
unfolding row free_row
row_of_install prefixes F slot p =
    cond_both (is_barred prefixes F (Install p)) _ _ (IsOfInstall slot) (λ _. record { answer = tt; changes = tt }) (λ _. of_install _ _ _ _ _)

paths_in_slot : (slot : ℕ) (cs : List Change) → AllByRecursion IsOfPath cs → AllByRecursion (IsInSlot slot) cs
paths_in_slot slot [] h = tt
paths_in_slot slot (Becomes p what ∷ cs) h = (tt, paths_in_slot slot cs h.1)
paths_in_slot slot (Stages other octets ∷ cs) h = elim h.0 [ ]

-- a row stages in its own slot alone
pub row_in_slot : (prefixes : List Path) (F : Filestore) (slot : ℕ) (item : Item) → AllByRecursion (IsInSlot slot) (row prefixes F slot item).changes
row_in_slot prefixes F slot (Install p) = (row_of_install prefixes F slot p).changes
row_in_slot prefixes F slot (Perform request) = paths_in_slot slot _ (row_of_request prefixes F slot request).changes

-- slots and rows ------------------------------------------------------------------

-- an install that comes about leaves its slot empty
installed_empty : (slot : ℕ) (p : Path) (octets : List ℕ) (there : Option Node) (good : Bool) (F : Filestore) → slot < length F.staged →
    IsTrue (succeeded (install slot p octets there good).answer) → staged_in (after F (install slot p octets there good).changes) slot ≡ []
unfolding install
installed_empty slot p octets None false F inside h = absurd cc
installed_empty slot p octets (Some what) false F inside h = absurd cc
installed_empty slot p octets (Some Directory) true F inside h = absurd cc
installed_empty slot p octets None true F inside h = get_or-set_same F.staged slot [] [] inside
installed_empty slot p octets (Some (File old)) true F inside h = get_or-set_same F.staged slot [] [] inside

pub install_empties : (prefixes : List Path) (F : Filestore) (slot : ℕ) (p : Path) → slot < length F.staged →
    IsTrue (succeeded (row prefixes F slot (Install p)).answer) → staged_in (performed prefixes F slot (Install p)) slot ≡ []
unfolding row free_row
install_empties prefixes F slot p inside =
    cond_both (is_barred prefixes F (Install p)) _ _ (λ (o : Outcome). IsTrue (succeeded o.answer) → staged_in (after F o.changes) slot ≡ [])
    (λ _ h. absurd cc) (λ _ h. installed_empty slot p _ _ _ F inside h)

paths_staged : (F : Filestore) (slot : ℕ) (cs : List Change) → AllByRecursion IsOfPath cs → staged_in (after F cs) slot ≡ staged_in F slot
paths_staged F slot [] h = refl
paths_staged F slot (Becomes p what ∷ cs) h = paths_staged (changed F (Becomes p what)) slot cs h.1
paths_staged F slot (Stages other octets ∷ cs) h = elim h.0 [ ]

-- a request stages nothing
pub request_keeps_staged : (prefixes : List Path) (F : Filestore) (slot other : ℕ) (request : Request) →
    staged_in (performed prefixes F slot (Perform request)) other ≡ staged_in F other
request_keeps_staged prefixes F slot other request = paths_staged F other _ (row_of_request prefixes F slot request).changes
