-- A row that succeeds answers 'successful' of its request's own action, and so the statuses come in the requests' order.
use Rattle.std.proofs.Common.{◌≡◌, ℕ, List, [], ◌++◌, length, refl, sym}
use Rattle.std.specs.Prelude.{Option, Some, None, Bool, true, false, IsTrue, take}
use Rattle.std.proofs.lemmas.Bool.{cond_both}
use Rattle.std.proofs.Math.Seq.{take-append_seam}
use Rattle.cfdp_status.specs.declared.action.Action.{Action}
use Rattle.cfdp_status.specs.declared.action.Action.TheVariants as action
use Rattle.cfdp_status.specs.declared.status.Status.{Status}
use Rattle.cfdp_status.specs.declared.status.Status.TheVariants.{Successful}
use Rattle.cfdp_paths.specs.Paths.{Path, same_path, is_at_or_below}
use Rattle.cfdp_paths.specs.PathMaps.{is_too_deep}
use Rattle.cfdp_actions.specs.Filestore.{Node, Directory, File, Filestore, node_at, has_entries, parent_is_good, tree_at}
use Rattle.cfdp_actions.specs.Actions.{action_in, Request, CreateFile, DeleteFile, RenameFile, AppendFile, ReplaceFile, CreateDirectory, RemoveDirectory, DenyFile, DenyDirectory, Perform, Performed, Outcome, create, delete_file, rename, append, replace, remove_directory, deny_file, deny_directory, table, free_row, row, is_barred, succeeded}

abbrev pub IsOwn : Action → Outcome → Type 0
IsOwn a o = IsTrue (succeeded o.answer) → o.answer ≡ Performed (Successful a)

own_create : (a : Action) (node : Node) (p : Path) (there : Option Node) (good : Bool) → IsOwn a (create a node p there good)
unfolding create
own_create a node p (Some _) good = λ h. absurd cc
own_create a node p None false = λ h. absurd cc
own_create a node p None true = λ h. refl

own_delete : (p : Path) (there : Option Node) → IsOwn action.DeleteFile (delete_file p there)
unfolding delete_file
own_delete p None = λ h. absurd cc
own_delete p (Some Directory) = λ h. absurd cc
own_delete p (Some (File octets)) = λ h. refl

own_rename : (p q : Path) (there taken : Option Node) (good below : Bool) (es : List (Path × Node)) →
    IsOwn action.RenameFile (rename p q there taken good below es)
unfolding rename
own_rename p q None _ good below es = λ h. absurd cc
own_rename p q (Some node) (Some _) good below es = λ h. absurd cc
own_rename p q (Some node) None false below es = λ h. absurd cc
own_rename p q (Some node) None true true es = λ h. absurd cc
own_rename p q (Some node) None true false es =
    cond_both (is_too_deep p q es) _ _ (λ (o : Outcome). IsOwn action.RenameFile o) (λ _ h. absurd cc) (λ _ h. refl)

own_append : (p : Path) (there other : Option Node) → IsOwn action.AppendFile (append p there other)
unfolding append
own_append p None _ = λ h. absurd cc
own_append p (Some a) None = λ h. absurd cc
own_append p (Some Directory) (Some b) = λ h. absurd cc
own_append p (Some (File xs)) (Some Directory) = λ h. absurd cc
own_append p (Some (File xs)) (Some (File ys)) = λ h. refl

own_replace : (p : Path) (same : Bool) (there other : Option Node) → IsOwn action.ReplaceFile (replace p same there other)
unfolding replace
own_replace p same None _ = λ h. absurd cc
own_replace p same (Some a) None = λ h. absurd cc
own_replace p same (Some Directory) (Some b) = λ h. absurd cc
own_replace p same (Some (File xs)) (Some Directory) = λ h. absurd cc
own_replace p true (Some (File xs)) (Some (File ys)) = λ h. refl
own_replace p false (Some (File xs)) (Some (File ys)) = λ h. refl

own_remove : (p : Path) (there : Option Node) (entries : Bool) → IsOwn action.RemoveDirectory (remove_directory p there entries)
unfolding remove_directory
own_remove p None entries = λ h. absurd cc
own_remove p (Some (File octets)) entries = λ h. absurd cc
own_remove p (Some Directory) true = λ h. absurd cc
own_remove p (Some Directory) false = λ h. refl

own_deny_file : (p : Path) (there : Option Node) → IsOwn action.DenyFile (deny_file p there)
unfolding deny_file
own_deny_file p None = λ h. refl
own_deny_file p (Some Directory) = λ h. absurd cc
own_deny_file p (Some (File octets)) = λ h. refl

own_deny_directory : (p : Path) (there : Option Node) (entries : Bool) → IsOwn action.DenyDirectory (deny_directory p there entries)
unfolding deny_directory
own_deny_directory p None entries = λ h. refl
own_deny_directory p (Some (File octets)) entries = λ h. absurd cc
own_deny_directory p (Some Directory) true = λ h. absurd cc
own_deny_directory p (Some Directory) false = λ h. refl

own_table : (F : Filestore) (request : Request) → IsOwn (action_in request) (table F request)
unfolding table
own_table F (CreateFile p) = own_create action.CreateFile (File []) p (node_at F p) (parent_is_good F p)
own_table F (DeleteFile p) = own_delete p (node_at F p)
own_table F (RenameFile p q) = own_rename p q (node_at F p) (node_at F q) (parent_is_good F q) (is_at_or_below q p) (tree_at F p)
own_table F (AppendFile p q) = own_append p (node_at F p) (node_at F q)
own_table F (ReplaceFile p q) = own_replace p (same_path p q) (node_at F p) (node_at F q)
own_table F (CreateDirectory p) = own_create action.CreateDirectory Directory p (node_at F p) (parent_is_good F p)
own_table F (RemoveDirectory p) = own_remove p (node_at F p) (has_entries F p)
own_table F (DenyFile p) = own_deny_file p (node_at F p)
own_table F (DenyDirectory p) = own_deny_directory p (node_at F p) (has_entries F p)

pub own_row : (prefixes : List Path) (F : Filestore) (slot : ℕ) (request : Request) → IsOwn (action_in request) (row prefixes F slot (Perform request))
unfolding row free_row
own_row prefixes F slot request =
    cond_both (is_barred prefixes F (Perform request)) _ _ (λ (o : Outcome). IsOwn (action_in request) o) (λ _ h. absurd cc) (λ _. own_table F request)

-- what comes before the rest is its beginning
pub begins : (ss rest all : List Status) → ss ++ rest ≡ all → ss ≡ take (length ss) all
begins ss rest all e = rw (← e) (sym (take-append_seam ss rest))
