-- The status that answers a request speaks of its action.
use Rattle.std.proofs.Common.{◌≡◌, ℕ, ◌-◌, Bool, true, false, List, [], Option, Some, None, refl, cond, subst, sym, ap, ◌∙◌}
use Rattle.cfdp_status.proofs.Choices.{either_way}
use Rattle.cfdp_status.specs.Codes.{action_of}
use Rattle.cfdp_status.specs.declared.action.Action.{Action}
use Rattle.cfdp_status.specs.declared.action.Action.TheVariants as action
use Rattle.cfdp_status.specs.declared.status.Status.{Status}
use Rattle.cfdp_paths.specs.Paths.{Path, path_of}
use Rattle.cfdp_actions.specs.Filestore.{Node, Directory, File, Filestore, blocks, node_at, parent_is_good, tree_at, has_entries}
use Rattle.cfdp_paths.specs.Paths.{same_path, is_at_or_below}
use Rattle.cfdp_paths.specs.PathMaps.{is_too_deep}
use Rattle.std.specs.Prelude.{nat_le, ◌+◌}
use Rattle.cfdp_actions.specs.Actions.{Request, CreateFile, DeleteFile, RenameFile, AppendFile, ReplaceFile, CreateDirectory, RemoveDirectory, DenyFile, DenyDirectory, action_in, Outcome, create, delete_file, rename, append, replace, remove_directory, deny_file, deny_directory, table, Perform, denied, act, bars}
use Rattle.cfdp_tlv.specs.Values.{RequestFields}
use Rattle.cfdp_verifier.specs.Verdict.{named, request_by}
use Rattle.cfdp_transactions.proofs.Soundness.Parsing.{IsOfAction, of_action}
use Rattle.cfdp_commands.specs.Plain.{PlainState, when_stopped, performed_on, status_in, outcome_by, outcome_on, plain_blocks}

-- the outcome is a status of this action
abbrev SpeaksOf : Action → Outcome → Type 0
SpeaksOf action outcome = action_of (status_in action outcome.answer) ≡ action

create_speaks : (action : Action) (node : Node) (p : Path) (old : Option Node) (good : Bool) → SpeaksOf action (create action node p old good)
unfolding create
create_speaks action node p None true = refl
create_speaks action node p None false = refl
create_speaks action node p (Some old) good = refl

delete_speaks : (p : Path) (old : Option Node) → SpeaksOf action.DeleteFile (delete_file p old)
unfolding delete_file
delete_speaks p None = refl
delete_speaks p (Some Directory) = refl
delete_speaks p (Some (File octets)) = refl

rename_speaks : (p q : Path) (a b : Option Node) (good below : Bool) (es : List (Path × Node)) → SpeaksOf action.RenameFile (rename p q a b good below es)
unfolding rename
rename_speaks p q None b good below es = refl
rename_speaks p q (Some a) (Some b) good below es = refl
rename_speaks p q (Some a) None false below es = refl
rename_speaks p q (Some a) None true true es = refl
rename_speaks p q (Some a) None true false es = either_way (SpeaksOf action.RenameFile) (is_too_deep p q es) _ _ refl refl

append_speaks : (p : Path) (a b : Option Node) → SpeaksOf action.AppendFile (append p a b)
unfolding append
append_speaks p None b = refl
append_speaks p (Some Directory) None = refl
append_speaks p (Some (File xs)) None = refl
append_speaks p (Some Directory) (Some b) = refl
append_speaks p (Some (File xs)) (Some Directory) = refl
append_speaks p (Some (File xs)) (Some (File ys)) = refl

replace_speaks : (p : Path) (same : Bool) (a b : Option Node) → SpeaksOf action.ReplaceFile (replace p same a b)
unfolding replace
replace_speaks p same None b = refl
replace_speaks p same (Some Directory) None = refl
replace_speaks p same (Some (File xs)) None = refl
replace_speaks p same (Some Directory) (Some b) = refl
replace_speaks p same (Some (File xs)) (Some Directory) = refl
replace_speaks p true (Some (File xs)) (Some (File ys)) = refl
replace_speaks p false (Some (File xs)) (Some (File ys)) = refl

remove_speaks : (p : Path) (a : Option Node) (entries : Bool) → SpeaksOf action.RemoveDirectory (remove_directory p a entries)
unfolding remove_directory
remove_speaks p None entries = refl
remove_speaks p (Some (File octets)) entries = refl
remove_speaks p (Some Directory) true = refl
remove_speaks p (Some Directory) false = refl

deny_file_speaks : (p : Path) (a : Option Node) → SpeaksOf action.DenyFile (deny_file p a)
unfolding deny_file
deny_file_speaks p None = refl
deny_file_speaks p (Some Directory) = refl
deny_file_speaks p (Some (File octets)) = refl

deny_directory_speaks : (p : Path) (a : Option Node) (entries : Bool) → SpeaksOf action.DenyDirectory (deny_directory p a entries)
unfolding deny_directory
deny_directory_speaks p None entries = refl
deny_directory_speaks p (Some (File octets)) entries = refl
deny_directory_speaks p (Some Directory) true = refl
deny_directory_speaks p (Some Directory) false = refl

table_speaks : (F : Filestore) (request : Request) → SpeaksOf (action_in request) (table F request)
unfolding table
table_speaks F (CreateFile p) = create_speaks action.CreateFile (File []) p (node_at F p) (parent_is_good F p)
table_speaks F (DeleteFile p) = delete_speaks p (node_at F p)
table_speaks F (RenameFile p q) = rename_speaks p q (node_at F p) (node_at F q) (parent_is_good F q) (is_at_or_below q p) (tree_at F p)
table_speaks F (AppendFile p q) = append_speaks p (node_at F p) (node_at F q)
table_speaks F (ReplaceFile p q) = replace_speaks p (same_path p q) (node_at F p) (node_at F q)
table_speaks F (CreateDirectory p) = create_speaks action.CreateDirectory Directory p (node_at F p) (parent_is_good F p)
table_speaks F (RemoveDirectory p) = remove_speaks p (node_at F p) (has_entries F p)
table_speaks F (DenyFile p) = deny_file_speaks p (node_at F p)
table_speaks F (DenyDirectory p) = deny_directory_speaks p (node_at F p) (has_entries F p)

act_speaks : (prefixes : List Path) (F : Filestore) (free : ℕ) (request : Request) → SpeaksOf (action_in request) (act prefixes F free request)
act_speaks prefixes F free request =
    let row : Outcome = cond (bars prefixes request) (denied (Perform request)) (table F request) in
    either_way (SpeaksOf (action_in request)) (nat_le row.taken (free + row.given)) row (denied (Perform request))
    (either_way (SpeaksOf (action_in request)) (bars prefixes request) (denied (Perform request)) (table F request) refl (table_speaks F request))
    refl

made_speaks : (F : Filestore) (free : ℕ) (a : Action) (request : Request) → action_in request ≡ a → SpeaksOf a (act [] F free request)
made_speaks F free a request e = subst (λ (b : Action). SpeaksOf b (act [] F free request)) e (act_speaks [] F free request)

by_speaks : (F : Filestore) (a : Action) (request : Option Request) → IsOfAction a request → SpeaksOf a (outcome_by F a request)
by_speaks F a None own = refl
by_speaks F a (Some request) own = made_speaks F (plain_blocks - blocks F) a request own

-- the status of a request's outcome is one of its action
outcome_on_speaks : (F : Filestore) (fields : RequestFields) → action_of (status_in fields.action (outcome_on F fields).answer) ≡ fields.action
outcome_on_speaks F fields = by_speaks F fields.action (request_by fields) (of_action fields.action (path_of fields.first) (named fields.second))

stopped_speaks : (stopped : Bool) (state : PlainState) (fields : RequestFields) → action_of (when_stopped stopped state fields).1 ≡ fields.action
stopped_speaks true state fields = refl
stopped_speaks false state fields = outcome_on_speaks state.filestore fields

-- so does the status that a request is answered with
pub performed_on_speaks : (state after : PlainState) (fields : RequestFields) (status : Status) → performed_on state fields ≡ (after, status)
    → action_of status ≡ fields.action
performed_on_speaks state after fields status e =
    ap (λ (p : PlainState × Status). action_of p.1) (sym e) ∙ stopped_speaks state.stopped state fields
