-- Why a row of the action table is refused, or that it is not.
--     file_creation, directory_creation, deletion, denial, removal, directory_denial, appending, replacement
--                                          of a row, by the kinds that are at its paths
--     create_present, create_bad, create_made    an empty node is made only where nothing exists and the parent is good
--     rename_old_absent, rename_new_present, rename_bad_parent, rename_into_itself, rename_too_deep, rename_of_tree
--                                          a tree moves only from where it is to where it may
use Rattle.std.proofs.Common.{◌≡◌, refl, ap, Bool, true, false, if◌then◌else◌, is_some, List, [], ◌∷◌, ◌++◌, Option, Some, None}
use Rattle.cfdp_status.specs.declared.action.Action.{Action}
use Rattle.cfdp_status.specs.declared.action.Action.TheVariants as action
use Rattle.cfdp_status.specs.declared.status.Status.{Status}
use Rattle.cfdp_status.specs.declared.status.Status.TheVariants.{NotAllowed, DeleteAbsent, RenameOldAbsent, RenameNewPresent, AppendFirstAbsent, AppendSecondAbsent, ReplaceFirstAbsent, ReplaceSecondAbsent, RemoveAbsent}
use Rattle.cfdp_paths.specs.Paths.{Path, same_path, is_at_or_below}
use Rattle.cfdp_paths.specs.PathMaps.{is_too_deep}
use Rattle.cfdp_actions.specs.Filestore.{Node, Directory, File, Filestore, node_at, Becomes, has_entries, parent_is_good, tree_at}
use Rattle.cfdp_actions.specs.Actions.{CreateFile, DeleteFile, RenameFile, AppendFile, ReplaceFile, CreateDirectory, RemoveDirectory, DenyFile, DenyDirectory, refused, succeeds, create, delete_file, vacating, arriving, rename, append, replace, remove_directory, deny_file, deny_directory, table}
use Rattle.cfdp_actions.specs.Store.{kind_in, kind_at}
use Rattle.cfdp_actions.specs.Refusals.{Refuses}
use Rattle.cfdp_actions.specs.code.Refusals.{file_refusal, directory_refusal, joint_refusal}

delete_refuses : (p : Path) (o : Option Node) → Refuses (delete_file p o) (file_refusal action.DeleteFile (Some DeleteAbsent) (kind_in o))
unfolding delete_file
delete_refuses p None = refl
delete_refuses p (Some Directory) = refl
delete_refuses p (Some (File octets)) = refl

deny_refuses : (p : Path) (o : Option Node) → Refuses (deny_file p o) (file_refusal action.DenyFile None (kind_in o))
unfolding deny_file
deny_refuses p None = refl
deny_refuses p (Some Directory) = refl
deny_refuses p (Some (File octets)) = refl

remove_refuses : (p : Path) (o : Option Node) (entries : Bool) → Refuses (remove_directory p o entries)
    (directory_refusal action.RemoveDirectory (Some RemoveAbsent) (kind_in o) entries)
unfolding remove_directory
remove_refuses p None entries = refl
remove_refuses p (Some (File octets)) entries = refl
remove_refuses p (Some Directory) true = refl
remove_refuses p (Some Directory) false = refl

deny_directory_refuses : (p : Path) (o : Option Node) (entries : Bool) →
    Refuses (deny_directory p o entries) (directory_refusal action.DenyDirectory None (kind_in o) entries)
unfolding deny_directory
deny_directory_refuses p None entries = refl
deny_directory_refuses p (Some (File octets)) entries = refl
deny_directory_refuses p (Some Directory) true = refl
deny_directory_refuses p (Some Directory) false = refl

append_refuses : (p : Path) (a b : Option Node) → Refuses (append p a b)
    (joint_refusal action.AppendFile (AppendFirstAbsent, AppendSecondAbsent) (kind_in a) (kind_in b))
unfolding append
append_refuses p None b = refl
append_refuses p (Some a) None = refl
append_refuses p (Some Directory) (Some b) = refl
append_refuses p (Some (File xs)) (Some Directory) = refl
append_refuses p (Some (File xs)) (Some (File ys)) = refl

replace_refuses : (p : Path) (same : Bool) (a b : Option Node) → Refuses (replace p same a b)
    (joint_refusal action.ReplaceFile (ReplaceFirstAbsent, ReplaceSecondAbsent) (kind_in a) (kind_in b))
unfolding replace
replace_refuses p same None b = refl
replace_refuses p same (Some a) None = refl
replace_refuses p same (Some Directory) (Some b) = refl
replace_refuses p same (Some (File xs)) (Some Directory) = refl
replace_refuses p true (Some (File xs)) (Some (File ys)) = refl
replace_refuses p false (Some (File xs)) (Some (File ys)) = refl

module _ (F : Filestore) (p : Path) (stated : Option Status) where
  pub file_creation : Refuses (create action.CreateFile (File []) p (node_at F p) (parent_is_good F p)) stated → Refuses (table F (CreateFile p)) stated
  unfolding table
  file_creation e = e

  pub directory_creation : Refuses (create action.CreateDirectory Directory p (node_at F p) (parent_is_good F p)) stated →
      Refuses (table F (CreateDirectory p)) stated
  unfolding table
  directory_creation e = e

  pub deletion : stated ≡ file_refusal action.DeleteFile (Some DeleteAbsent) (kind_at F p) → Refuses (table F (DeleteFile p)) stated
  unfolding table
  deletion e = rw e (delete_refuses p (node_at F p))

  pub denial : stated ≡ file_refusal action.DenyFile None (kind_at F p) → Refuses (table F (DenyFile p)) stated
  unfolding table
  denial e = rw e (deny_refuses p (node_at F p))

  pub removal : stated ≡ directory_refusal action.RemoveDirectory (Some RemoveAbsent) (kind_at F p) (has_entries F p)
      → Refuses (table F (RemoveDirectory p)) stated
  unfolding table
  removal e = rw e (remove_refuses p (node_at F p) (has_entries F p))

  pub directory_denial : stated ≡ directory_refusal action.DenyDirectory None (kind_at F p) (has_entries F p) → Refuses (table F (DenyDirectory p)) stated
  unfolding table
  directory_denial e = rw e (deny_directory_refuses p (node_at F p) (has_entries F p))

  pub appending : (q : Path) → stated ≡ joint_refusal action.AppendFile (AppendFirstAbsent, AppendSecondAbsent) (kind_at F p) (kind_at F q) →
      Refuses (table F (AppendFile p q)) stated
  unfolding table
  appending q e = rw e (append_refuses p (node_at F p) (node_at F q))

  pub replacement : (q : Path) → stated ≡ joint_refusal action.ReplaceFile (ReplaceFirstAbsent, ReplaceSecondAbsent) (kind_at F p) (kind_at F q) →
      Refuses (table F (ReplaceFile p q)) stated
  unfolding table
  replacement q e = rw e (replace_refuses p (same_path p q) (node_at F p) (node_at F q))

-- ---- creation

pub create_present : (action : Action) (node : Node) (p : Path) (o : Option Node) (good : Bool) → is_some o ≡ true → create action node p o good
    ≡ refused (NotAllowed action)
unfolding create
create_present action node p None good h = cc
create_present action node p (Some other) good h = refl

pub create_bad : (action : Action) (node : Node) (p : Path) (o : Option Node) (good : Bool) → good ≡ false → create action node p o good
    ≡ refused (NotAllowed action)
unfolding create
create_bad action node p None true h = cc
create_bad action node p None false h = refl
create_bad action node p (Some other) good h = refl

pub create_made : (action : Action) (node : Node) (p : Path) (o : Option Node) (good : Bool) → o ≡ None → good ≡ true → create action node p o good
    ≡ succeeds action (Becomes p (Some node) ∷ []) 1 0 0
unfolding create
create_made action node p None true h k = refl
create_made action node p None false h k = cc
create_made action node p (Some other) good h k = cc

-- ---- rename

pub rename_old_absent : (F : Filestore) (p q : Path) → node_at F p ≡ None → table F (RenameFile p q) ≡ refused RenameOldAbsent
unfolding table rename
rename_old_absent F p q e = ap (λ o. rename p q o (node_at F q) (parent_is_good F q) (is_at_or_below q p) (tree_at F p)) e

rename_onto : (p q : Path) (a b : Option Node) (good below : Bool) (es : List (Path × Node)) → is_some a ≡ true → is_some b ≡ true →
    rename p q a b good below es ≡ refused RenameNewPresent
unfolding rename
rename_onto p q None b good below es h k = cc
rename_onto p q (Some node) None good below es h k = cc
rename_onto p q (Some node) (Some other) good below es h k = refl

rename_bad : (p q : Path) (a b : Option Node) (good below : Bool) (es : List (Path × Node)) → is_some a ≡ true → b ≡ None → good ≡ false →
    rename p q a b good below es ≡ refused (NotAllowed action.RenameFile)
unfolding rename
rename_bad p q None b good below es h k g = cc
rename_bad p q (Some node) (Some other) good below es h k g = cc
rename_bad p q (Some node) None true below es h k g = cc
rename_bad p q (Some node) None false below es h k g = refl

rename_inside : (p q : Path) (a b : Option Node) (good below : Bool) (es : List (Path × Node)) → is_some a ≡ true → b ≡ None → below ≡ true →
    rename p q a b good below es ≡ refused (NotAllowed action.RenameFile)
unfolding rename
rename_inside p q None b good below es h k g = cc
rename_inside p q (Some node) (Some other) good below es h k g = cc
rename_inside p q (Some node) None false below es h k g = refl
rename_inside p q (Some node) None true true es h k g = refl
rename_inside p q (Some node) None true false es h k g = cc

rename_deep : (p q : Path) (a b : Option Node) (good below : Bool) (es : List (Path × Node)) → is_some a ≡ true → b ≡ None → is_too_deep p q es ≡ true →
    rename p q a b good below es ≡ refused (NotAllowed action.RenameFile)
unfolding rename
rename_deep p q None b good below es h k g = cc
rename_deep p q (Some node) (Some other) good below es h k g = cc
rename_deep p q (Some node) None false below es h k g = refl
rename_deep p q (Some node) None true true es h k g = refl
rename_deep p q (Some node) None true false es h k g = ap (λ deep. if deep then refused (NotAllowed action.RenameFile)
    else succeeds action.RenameFile (vacating es ++ arriving p q es) 0 0 0) g

rename_moved : (p q : Path) (a b : Option Node) (good below : Bool) (es : List (Path × Node)) → is_some a ≡ true → b ≡ None → good ≡ true → below ≡ false →
    is_too_deep p q es ≡ false → rename p q a b good below es ≡ succeeds action.RenameFile (vacating es ++ arriving p q es) 0 0 0
unfolding rename
rename_moved p q None b good below es h k g l d = cc
rename_moved p q (Some node) (Some other) good below es h k g l d = cc
rename_moved p q (Some node) None false below es h k g l d = cc
rename_moved p q (Some node) None true true es h k g l d = cc
rename_moved p q (Some node) None true false es h k g l d = ap (λ deep. if deep then refused (NotAllowed action.RenameFile)
    else succeeds action.RenameFile (vacating es ++ arriving p q es) 0 0 0) d

pub rename_new_present : (F : Filestore) (p q : Path) → is_some (node_at F p) ≡ true → is_some (node_at F q) ≡ true → table F (RenameFile p q)
    ≡ refused RenameNewPresent
unfolding table
rename_new_present F p q h k = rename_onto p q (node_at F p) (node_at F q) (parent_is_good F q) (is_at_or_below q p) (tree_at F p) h k

pub rename_bad_parent : (F : Filestore) (p q : Path) → is_some (node_at F p) ≡ true → node_at F q ≡ None → parent_is_good F q ≡ false → table F (RenameFile p q)
    ≡ refused (NotAllowed action.RenameFile)
unfolding table
rename_bad_parent F p q h k g = rename_bad p q (node_at F p) (node_at F q) (parent_is_good F q) (is_at_or_below q p) (tree_at F p) h k g

pub rename_into_itself : (F : Filestore) (p q : Path) → is_some (node_at F p) ≡ true → node_at F q ≡ None → is_at_or_below q p ≡ true → table F (RenameFile p q)
    ≡ refused (NotAllowed action.RenameFile)
unfolding table
rename_into_itself F p q h k g = rename_inside p q (node_at F p) (node_at F q) (parent_is_good F q) (is_at_or_below q p) (tree_at F p) h k g

pub rename_too_deep : (F : Filestore) (p q : Path) → is_some (node_at F p) ≡ true → node_at F q ≡ None → is_too_deep p q (tree_at F p) ≡ true →
    table F (RenameFile p q) ≡ refused (NotAllowed action.RenameFile)
unfolding table
rename_too_deep F p q h k g = rename_deep p q (node_at F p) (node_at F q) (parent_is_good F q) (is_at_or_below q p) (tree_at F p) h k g

pub rename_of_tree : (F : Filestore) (p q : Path) → is_some (node_at F p) ≡ true → node_at F q ≡ None → parent_is_good F q ≡ true → is_at_or_below q p ≡ false →
    is_too_deep p q (tree_at F p) ≡ false →
    table F (RenameFile p q) ≡ succeeds action.RenameFile (vacating (tree_at F p) ++ arriving p q (tree_at F p)) 0 0 0
unfolding table
rename_of_tree F p q h k g l d = rename_moved p q (node_at F p) (node_at F q) (parent_is_good F q) (is_at_or_below q p) (tree_at F p) h k g l d
