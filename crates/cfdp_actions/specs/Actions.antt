-- The action table: what each filestore request does to the filestore, and how it ends (CCSDS 727.0-B-5, filestore
-- procedures, with the status codes of §5.4.2). Also the install of a delivered file, and the prefixes that nothing may
-- change.
--     Request, Item             the nine actions with their paths;  an item is the install or a request
--     action_in, first_in, second_in, request_of    a request's parts, and the request with these parts
--     Answer, succeeded         a request's status, or whether the file was installed;  whether it went well
--     Outcome, ticks            the answer, what changes, and the blocks taken, given back and moved;  their sum
--     create .. deny_directory, install    one row each, with unlimited room, by what is at the paths that it names
--     table F request           the row of a request;  free_row F slot item: of an item that stages in the slot
--     is_protected, bars, is_barred    at or below a prefix;  what may not be changed
--     row prefixes F slot item  the row, being barred coming first
--     within free item o        the row, where it fits into the free blocks
--     act, act_item             what a request, or an item, does: the row within the free blocks
use Rattle.std.specs.Prelude.{ℕ, ◌+◌, ◌-◌, Bool, true, false, if◌then◌else◌, nat_le, ◌||◌, ◌&&◌, is_some, List, [], ◌∷◌, ◌++◌, Option, Some, None, length, unwrap_or}
use Rattle.std.specs.List.{list_any}
use Rattle.cfdp_status.specs.declared.action.Action.{Action}
use Rattle.cfdp_status.specs.declared.action.Action.TheVariants as action
use Rattle.cfdp_status.specs.declared.status.Status.{Status}
use Rattle.cfdp_status.specs.declared.status.Status.TheVariants.{Successful, NotAllowed, DeleteAbsent, RenameOldAbsent, RenameNewPresent, AppendFirstAbsent, AppendSecondAbsent, ReplaceFirstAbsent, ReplaceSecondAbsent, RemoveAbsent}
use Rattle.cfdp_status.specs.Codes.{is_successful}
use Rattle.cfdp_paths.specs.Paths.{Path, same_path, is_at_or_below, rebased}
use Rattle.cfdp_paths.specs.PathMaps.{is_too_deep}
use Rattle.cfdp_actions.specs.Filestore.{Node, Directory, File, Filestore, node_at, staged_in, blocks_of, weight, Change, Becomes, Stages, has_entries, parent_is_good, tree_at}
use Rattle.cfdp_actions.specs.declared.request.Request.{Request as CodeRequest}
use Rattle.cfdp_actions.specs.declared.request.Request.TheVariants as request

-- the nine requests, each with the one or two paths that it names, as the code has them
abbrev pub Request : Type 0
Request = CodeRequest

pattern abbrev pub CreateFile : Path → Request
CreateFile p = request.CreateFile p

pattern abbrev pub DeleteFile : Path → Request
DeleteFile p = request.DeleteFile p

pattern abbrev pub RenameFile : Path → Path → Request
RenameFile p q = request.RenameFile p q

pattern abbrev pub AppendFile : Path → Path → Request
AppendFile p q = request.AppendFile p q

pattern abbrev pub ReplaceFile : Path → Path → Request
ReplaceFile p q = request.ReplaceFile p q

pattern abbrev pub CreateDirectory : Path → Request
CreateDirectory p = request.CreateDirectory p

pattern abbrev pub RemoveDirectory : Path → Request
RemoveDirectory p = request.RemoveDirectory p

pattern abbrev pub DenyFile : Path → Request
DenyFile p = request.DenyFile p

pattern abbrev pub DenyDirectory : Path → Request
DenyDirectory p = request.DenyDirectory p

abbrev pub action_in : Request → Action
action_in (CreateFile p) = action.CreateFile
action_in (DeleteFile p) = action.DeleteFile
action_in (RenameFile p q) = action.RenameFile
action_in (AppendFile p q) = action.AppendFile
action_in (ReplaceFile p q) = action.ReplaceFile
action_in (CreateDirectory p) = action.CreateDirectory
action_in (RemoveDirectory p) = action.RemoveDirectory
action_in (DenyFile p) = action.DenyFile
action_in (DenyDirectory p) = action.DenyDirectory

abbrev pub first_in : Request → Path
first_in (CreateFile p) = p
first_in (DeleteFile p) = p
first_in (RenameFile p q) = p
first_in (AppendFile p q) = p
first_in (ReplaceFile p q) = p
first_in (CreateDirectory p) = p
first_in (RemoveDirectory p) = p
first_in (DenyFile p) = p
first_in (DenyDirectory p) = p

abbrev pub second_in : Request → Option Path
second_in (RenameFile p q) = Some q
second_in (AppendFile p q) = Some q
second_in (ReplaceFile p q) = Some q
second_in _ = None

-- the request with these parts; where the action has no second name, none is looked at
abbrev pub request_of : Action → Path → Option Path → Request
request_of action.CreateFile p second = CreateFile p
request_of action.DeleteFile p second = DeleteFile p
request_of action.RenameFile p second = RenameFile p (unwrap_or second [])
request_of action.AppendFile p second = AppendFile p (unwrap_or second [])
request_of action.ReplaceFile p second = ReplaceFile p (unwrap_or second [])
request_of action.CreateDirectory p second = CreateDirectory p
request_of action.RemoveDirectory p second = RemoveDirectory p
request_of action.DenyFile p second = DenyFile p
request_of action.DenyDirectory p second = DenyDirectory p

-- what a transaction performs: the install of the file that was delivered, or a filestore request
pub data Item : Type 0 where
  Install : Path → Item
  Perform : Request → Item

-- how an item went: a request has a status, the install only comes about or not
pub data Answer : Type 0 where
  Performed : Status → Answer
  Installed : Answer
  NotInstalled : Answer

abbrev pub succeeded : Answer → Bool
succeeded (Performed status) = is_successful status
succeeded Installed = true
succeeded NotInstalled = false

pub record Outcome : Type 0 where
  pub answer : Answer
  pub changes : List Change
  pub taken : ℕ
  pub given : ℕ
  pub moved : ℕ

-- blocks taken, blocks given back, and moves
abbrev pub ticks : Outcome → ℕ
ticks o = o.taken + o.given + o.moved

-- no change, no tick
abbrev pub unchanged : Answer → Outcome
unchanged answer = record { answer = answer; changes = []; taken = 0; given = 0; moved = 0 }

abbrev pub refused : Status → Outcome
refused status = unchanged (Performed status)

abbrev pub succeeds : Action → List Change → ℕ → ℕ → ℕ → Outcome
succeeds action changes taken given moved = record {
  answer = Performed (Successful action);
  changes = changes;
  taken = taken;
  given = given;
  moved = moved;
}

-- an empty node at p, where nothing exists and the parent is good
unfoldable pub create : Action → Node → Path → Option Node → Bool → Outcome
create action node p (Some _) good = refused (NotAllowed action)
create action node p None false = refused (NotAllowed action)
create action node p None true = succeeds action (Becomes p (Some node) ∷ []) 1 0 0

-- p is gone, and its blocks are given back
abbrev pub gone : Action → Path → Option Node → Outcome
gone action p node = succeeds action (Becomes p None ∷ []) 0 (weight node) 0

unfoldable pub delete_file : Path → Option Node → Outcome
delete_file p None = refused DeleteAbsent
delete_file p (Some Directory) = refused (NotAllowed action.DeleteFile)
delete_file p (Some (File octets)) = gone action.DeleteFile p (Some (File octets))

-- nothing is at the tree's paths any more
abbrev pub vacating : List (Path × Node) → List Change
vacating [] = []
vacating (e ∷ es) = Becomes e.0 None ∷ vacating es

-- each p/r is at q/r
abbrev pub arriving : Path → Path → List (Path × Node) → List Change
arriving p q [] = []
arriving p q (e ∷ es) = Becomes (rebased p q e.0) (Some e.1) ∷ arriving p q es

-- p with all below it moves to q; not where q is below p, nor where a path would be too deep
unfoldable pub rename : Path → Path → Option Node → Option Node → Bool → Bool → List (Path × Node) → Outcome
rename p q None _ good below es = refused RenameOldAbsent
rename p q (Some node) (Some _) good below es = refused RenameNewPresent
rename p q (Some node) None false below es = refused (NotAllowed action.RenameFile)
rename p q (Some node) None true true es = refused (NotAllowed action.RenameFile)
rename p q (Some node) None true false es =
    if is_too_deep p q es then refused (NotAllowed action.RenameFile)
    else succeeds action.RenameFile (vacating es ++ arriving p q es) 0 0 0

-- q's octets at the end of p
unfoldable pub append : Path → Option Node → Option Node → Outcome
append p None _ = refused AppendFirstAbsent
append p (Some a) None = refused AppendSecondAbsent
append p (Some Directory) (Some b) = refused (NotAllowed action.AppendFile)
append p (Some (File xs)) (Some Directory) = refused (NotAllowed action.AppendFile)
append p (Some (File xs)) (Some (File ys)) =
    succeeds action.AppendFile (Becomes p (Some (File (xs ++ ys))) ∷ [])
    (blocks_of (length xs + length ys) - blocks_of (length xs)) 0 (blocks_of (length ys))

-- p has q's octets; nothing happens where both names are one
unfoldable pub replace : Path → Bool → Option Node → Option Node → Outcome
replace p same None _ = refused ReplaceFirstAbsent
replace p same (Some a) None = refused ReplaceSecondAbsent
replace p same (Some Directory) (Some b) = refused (NotAllowed action.ReplaceFile)
replace p same (Some (File xs)) (Some Directory) = refused (NotAllowed action.ReplaceFile)
replace p true (Some (File xs)) (Some (File ys)) = succeeds action.ReplaceFile [] 0 0 0
replace p false (Some (File xs)) (Some (File ys)) =
    succeeds action.ReplaceFile (Becomes p (Some (File ys)) ∷ []) (blocks_of (length ys)) (blocks_of (length xs))
    (blocks_of (length ys))

unfoldable pub remove_directory : Path → Option Node → Bool → Outcome
remove_directory p None entries = refused RemoveAbsent
remove_directory p (Some (File octets)) entries = refused (NotAllowed action.RemoveDirectory)
remove_directory p (Some Directory) true = refused (NotAllowed action.RemoveDirectory)
remove_directory p (Some Directory) false = gone action.RemoveDirectory p (Some Directory)

-- an absent path is denied already
unfoldable pub deny_file : Path → Option Node → Outcome
deny_file p None = succeeds action.DenyFile [] 0 0 0
deny_file p (Some Directory) = refused (NotAllowed action.DenyFile)
deny_file p (Some (File octets)) = gone action.DenyFile p (Some (File octets))

unfoldable pub deny_directory : Path → Option Node → Bool → Outcome
deny_directory p None entries = succeeds action.DenyDirectory [] 0 0 0
deny_directory p (Some (File octets)) entries = refused (NotAllowed action.DenyDirectory)
deny_directory p (Some Directory) true = refused (NotAllowed action.DenyDirectory)
deny_directory p (Some Directory) false = gone action.DenyDirectory p (Some Directory)

-- the staged list becomes p's contents, and the slot is empty
abbrev pub install_outcome : ℕ → Path → List ℕ → ℕ → ℕ → Outcome
install_outcome slot p octets taken given =
    record {
      answer = Installed;
      changes = Stages slot [] ∷ Becomes p (Some (File octets)) ∷ [];
      taken = taken;
      given = given;
      moved = 0;
    }

unfoldable pub install : ℕ → Path → List ℕ → Option Node → Bool → Outcome
install slot p octets None false = unchanged NotInstalled
install slot p octets (Some node) false = unchanged NotInstalled
install slot p octets (Some Directory) true = unchanged NotInstalled
install slot p octets None true = install_outcome slot p octets 1 0
install slot p octets (Some (File old)) true = install_outcome slot p octets 0 (blocks_of (length old))

-- the action table, with unlimited room: each row by what is at the paths that it names
unfoldable pub table : Filestore → Request → Outcome
table F (CreateFile p) = create action.CreateFile (File []) p (node_at F p) (parent_is_good F p)
table F (DeleteFile p) = delete_file p (node_at F p)
table F (RenameFile p q) = rename p q (node_at F p) (node_at F q) (parent_is_good F q) (is_at_or_below q p)
    (tree_at F p)
table F (AppendFile p q) = append p (node_at F p) (node_at F q)
table F (ReplaceFile p q) = replace p (same_path p q) (node_at F p) (node_at F q)
table F (CreateDirectory p) = create action.CreateDirectory Directory p (node_at F p) (parent_is_good F p)
table F (RemoveDirectory p) = remove_directory p (node_at F p) (has_entries F p)
table F (DenyFile p) = deny_file p (node_at F p)
table F (DenyDirectory p) = deny_directory p (node_at F p) (has_entries F p)

-- of an item of the transaction that stages in the slot, where nothing is protected
unfoldable pub free_row : Filestore → ℕ → Item → Outcome
free_row F slot (Install p) = install slot p (staged_in F slot) (node_at F p) (parent_is_good F p)
free_row F slot (Perform request) = table F request

-- at or below a prefix
abbrev pub is_protected : List Path → Path → Bool
is_protected prefixes p = list_any (λ prefix. is_at_or_below p prefix) prefixes

-- what is at or below a prefix may not be changed, and what is above one may not be moved; new paths may always be made
abbrev pub bars : List Path → Request → Bool
bars prefixes (CreateFile p) = false
bars prefixes (DeleteFile p) = is_protected prefixes p
bars prefixes (RenameFile p q) = is_protected prefixes p || list_any (λ prefix. is_at_or_below prefix p) prefixes
bars prefixes (AppendFile p q) = is_protected prefixes p
bars prefixes (ReplaceFile p q) = is_protected prefixes p
bars prefixes (CreateDirectory p) = false
bars prefixes (RemoveDirectory p) = is_protected prefixes p
bars prefixes (DenyFile p) = is_protected prefixes p
bars prefixes (DenyDirectory p) = is_protected prefixes p

-- an install that would replace a protected file is barred
abbrev pub is_barred : List Path → Filestore → Item → Bool
is_barred prefixes F (Install p) = is_some (node_at F p) && is_protected prefixes p
is_barred prefixes F (Perform request) = bars prefixes request

-- not allowed: no change, no tick
abbrev pub denied : Item → Outcome
denied (Install p) = unchanged NotInstalled
denied (Perform request) = refused (NotAllowed (action_in request))

-- being barred is the first test
unfoldable pub row : List Path → Filestore → ℕ → Item → Outcome
row prefixes F slot item = if is_barred prefixes F item then denied item else free_row F slot item

-- the row, where the blocks that it takes are free or given back by it
abbrev pub within : ℕ → Item → Outcome → Outcome
within free item o = if nat_le o.taken (free + o.given) then o else denied item

abbrev pub act : List Path → Filestore → ℕ → Request → Outcome
act prefixes F free request =
    within free (Perform request) (if bars prefixes request then denied (Perform request) else table F request)

abbrev pub act_item : List Path → Filestore → ℕ → ℕ → Item → Outcome
act_item prefixes F free slot item = within free item (row prefixes F slot item)
