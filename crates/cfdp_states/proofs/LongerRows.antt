-- Each row on two filestores, where the files of the second are as long or longer: the same answer, the same changes, and a
-- step bound no less.
use Rattle.std.proofs.Common.{◌≡◌, refl, sym, ap, subst, Bool, true, false, ◌&&◌, Option, Some, ℕ, ◌+◌, ◌*◌, ◌≤◌, List, [], ◌++◌, length, length-append, arith, if◌then◌else◌, le_refl, add-le-add}
use Rattle.cfdp_paths.specs.Paths.{Path, same_path, is_at_or_below}
use Rattle.cfdp_paths.specs.PathMaps.{is_too_deep}
use Rattle.cfdp_status.specs.declared.action.Action.{Action}
use Rattle.cfdp_status.specs.declared.action.Action.TheVariants as action
use Rattle.cfdp_status.specs.declared.status.Status.{Status}
use Rattle.cfdp_status.specs.declared.status.Status.TheVariants.{NotAllowed}
use Rattle.cfdp_actions.specs.Filestore.{Node, Directory, File, Filestore, node_at, staged_in, parent_is_good, has_entries, tree_at}
use Rattle.cfdp_actions.specs.Actions.{Request, CreateFile, DeleteFile, RenameFile, AppendFile, ReplaceFile, CreateDirectory, RemoveDirectory, DenyFile, DenyDirectory, Item, Install, Perform, Outcome, refused, succeeds, vacating, arriving, create, delete_file, rename, append, replace, remove_directory, deny_file, deny_directory, install, table, free_row, is_barred, is_protected, denied, row}
use Rattle.cfdp_actions.proofs.RowLaws.{blocks_of-mono}
use Rattle.cfdp_leases.specs.Items.{performed, content, step_bound}
use Rattle.cfdp_states.proofs.Longer.{Longer, nothing, folder, file, longer-is_some, longer-weight, longer-itself, LongerEntries, longer-depth, LongerChanges, longer-append, longer-vacated, longer-arriving, IsLonger, longer-after, parent-longer, tree-longer, entries-longer}

pub record IsLongerOutcome (slot other : ℕ) (o r : Outcome) : Type 0 where
  pub answer : o.answer ≡ r.answer
  pub changes : LongerChanges slot other o.changes r.changes

refused-longer : (slot other : ℕ) (status : Status) → IsLongerOutcome slot other (refused status) (refused status)
refused-longer slot other status = record { answer = refl; changes = tt }

module _ (slot other : ℕ) where
  create-longer : (action : Action) (node : Node) (p : Path) {a b : Option Node} (good : Bool) → Longer a b →
      IsLongerOutcome slot other (create action node p a good) (create action node p b good)
  unfolding create
  create-longer action node p true nothing = record { answer = refl; changes = ((refl, longer-itself (Some node)), tt) }
  create-longer action node p false nothing = refused-longer slot other (NotAllowed action)
  create-longer action node p good folder = refused-longer slot other (NotAllowed action)
  create-longer action node p good (file le) = refused-longer slot other (NotAllowed action)

  delete_file-longer : (p : Path) {a b : Option Node} → Longer a b → IsLongerOutcome slot other (delete_file p a) (delete_file p b)
  unfolding delete_file
  delete_file-longer p nothing = record { answer = refl; changes = tt }
  delete_file-longer p folder = record { answer = refl; changes = tt }
  delete_file-longer p (file le) = record { answer = refl; changes = ((refl, nothing), tt) }

  remove_directory-longer : (p : Path) {a b : Option Node} (entries : Bool) → Longer a b →
      IsLongerOutcome slot other (remove_directory p a entries) (remove_directory p b entries)
  unfolding remove_directory
  remove_directory-longer p entries nothing = record { answer = refl; changes = tt }
  remove_directory-longer p true folder = record { answer = refl; changes = tt }
  remove_directory-longer p false folder = record { answer = refl; changes = ((refl, nothing), tt) }
  remove_directory-longer p entries (file le) = record { answer = refl; changes = tt }

  deny_file-longer : (p : Path) {a b : Option Node} → Longer a b → IsLongerOutcome slot other (deny_file p a) (deny_file p b)
  unfolding deny_file
  deny_file-longer p nothing = record { answer = refl; changes = tt }
  deny_file-longer p folder = record { answer = refl; changes = tt }
  deny_file-longer p (file le) = record { answer = refl; changes = ((refl, nothing), tt) }

  deny_directory-longer : (p : Path) {a b : Option Node} (entries : Bool) → Longer a b →
      IsLongerOutcome slot other (deny_directory p a entries) (deny_directory p b entries)
  unfolding deny_directory
  deny_directory-longer p entries nothing = record { answer = refl; changes = tt }
  deny_directory-longer p true folder = record { answer = refl; changes = tt }
  deny_directory-longer p false folder = record { answer = refl; changes = ((refl, nothing), tt) }
  deny_directory-longer p entries (file le) = record { answer = refl; changes = tt }

  append-longer : (p : Path) {a b c d : Option Node} → Longer a b → Longer c d → IsLongerOutcome slot other (append p a c) (append p b d)
  unfolding append
  append-longer p nothing more = record { answer = refl; changes = tt }
  append-longer p folder nothing = record { answer = refl; changes = tt }
  append-longer p folder folder = record { answer = refl; changes = tt }
  append-longer p folder (file le) = record { answer = refl; changes = tt }
  append-longer p (file le) nothing = record { answer = refl; changes = tt }
  append-longer p (file le) folder = record { answer = refl; changes = tt }
  append-longer p (file {xs = xs} {ys = ys} le) (file {xs = us} {ys = vs} most) = record {
    answer = refl;
    changes = (
      (
        refl,
        file (subst (λ n. length (xs ++ us) ≤ n) (sym (length-append ys vs))
            (subst (λ n. n ≤ length ys + length vs) (sym (length-append xs us)) (add-le-add le most))),
      ),
      tt,
    );
  }

  replace-longer : (p : Path) (same : Bool) {a b c d : Option Node} → Longer a b → Longer c d →
      IsLongerOutcome slot other (replace p same a c) (replace p same b d)
  unfolding replace
  replace-longer p same nothing more = record { answer = refl; changes = tt }
  replace-longer p same folder nothing = record { answer = refl; changes = tt }
  replace-longer p same folder folder = record { answer = refl; changes = tt }
  replace-longer p same folder (file le) = record { answer = refl; changes = tt }
  replace-longer p same (file le) nothing = record { answer = refl; changes = tt }
  replace-longer p same (file le) folder = record { answer = refl; changes = tt }
  replace-longer p true (file le) (file most) = record { answer = refl; changes = tt }
  replace-longer p false (file le) (file most) = record { answer = refl; changes = ((refl, file most), tt) }

  moves-longer : (p q : Path) (es fs : List (Path × Node)) → LongerEntries es fs →
      IsLongerOutcome slot other
      (if is_too_deep p q es then refused (NotAllowed action.RenameFile) else succeeds action.RenameFile (vacating es ++ arriving p q es) 0 0 0)
      (if is_too_deep p q fs then refused (NotAllowed action.RenameFile) else succeeds action.RenameFile (vacating fs ++ arriving p q fs) 0 0 0)
  moves-longer p q es fs kept =
      let moved : IsLongerOutcome slot other (succeeds action.RenameFile (vacating es ++ arriving p q es) 0 0 0)
      (succeeds action.RenameFile (vacating fs ++ arriving p q fs) 0 0 0) =
      record {
        answer = refl;
        changes = longer-append slot other (vacating es) (vacating fs) (arriving p q es) (arriving p q fs)
            (longer-vacated slot other es fs kept) (longer-arriving slot other p q es fs kept);
      } in
      subst (λ deep. IsLongerOutcome slot other (if is_too_deep p q es then refused (NotAllowed action.RenameFile)
      else succeeds action.RenameFile (vacating es ++ arriving p q es) 0 0 0) (if deep then refused (NotAllowed action.RenameFile)
      else succeeds action.RenameFile (vacating fs ++ arriving p q fs) 0 0 0))
      (longer-depth p q es fs kept)
      (elim (is_too_deep p q es) as (λ deep. IsLongerOutcome slot other (if deep then refused (NotAllowed action.RenameFile)
      else succeeds action.RenameFile (vacating es ++ arriving p q es) 0 0 0) (if deep then refused (NotAllowed action.RenameFile)
      else succeeds action.RenameFile (vacating fs ++ arriving p q fs) 0 0 0)) [
        | true ↦ refused-longer slot other (NotAllowed action.RenameFile)
        | false ↦ moved
      ])

  rename-longer : (p q : Path) {a b c d : Option Node} (good below : Bool) (es fs : List (Path × Node)) → Longer a b → Longer c d → LongerEntries es fs →
      IsLongerOutcome slot other (rename p q a c good below es) (rename p q b d good below fs)
  unfolding rename
  rename-longer p q good below es fs nothing more kept = record { answer = refl; changes = tt }
  rename-longer p q good below es fs folder folder kept = record { answer = refl; changes = tt }
  rename-longer p q good below es fs folder (file le) kept = record { answer = refl; changes = tt }
  rename-longer p q false below es fs folder nothing kept = record { answer = refl; changes = tt }
  rename-longer p q true true es fs folder nothing kept = record { answer = refl; changes = tt }
  rename-longer p q true false es fs folder nothing kept = moves-longer p q es fs kept
  rename-longer p q good below es fs (file le) folder kept = record { answer = refl; changes = tt }
  rename-longer p q good below es fs (file le) (file most) kept = record { answer = refl; changes = tt }
  rename-longer p q false below es fs (file le) nothing kept = record { answer = refl; changes = tt }
  rename-longer p q true true es fs (file le) nothing kept = record { answer = refl; changes = tt }
  rename-longer p q true false es fs (file le) nothing kept = moves-longer p q es fs kept

  install-longer : (p : Path) {a b : Option Node} (xs ys : List ℕ) (good : Bool) → length xs ≤ length ys → Longer a b →
      IsLongerOutcome slot other (install slot p xs a good) (install other p ys b good)
  unfolding install
  install-longer p xs ys false le nothing = record { answer = refl; changes = tt }
  install-longer p xs ys false le folder = record { answer = refl; changes = tt }
  install-longer p xs ys false le (file more) = record { answer = refl; changes = tt }
  install-longer p xs ys true le folder = record { answer = refl; changes = tt }
  install-longer p xs ys true le nothing = record { answer = refl; changes = ((refl, refl, le_refl 0), ((refl, file le), tt)) }
  install-longer p xs ys true le (file more) = record { answer = refl; changes = ((refl, refl, le_refl 0), ((refl, file le), tt)) }

-- the second outcome looks at b, where a and b are one
along : {slot other : ℕ} {a b : Bool} → a ≡ b → (o : Outcome) (r : Bool → Outcome) → IsLongerOutcome slot other o (r a) → IsLongerOutcome slot other o (r b)
along {slot} {other} e o r h = subst (λ x. IsLongerOutcome slot other o (r x)) e h

module _ (slot other m n : ℕ) (F G : Filestore) (h : IsLonger slot other m n F G) where
  table-longer : (request : Request) → IsLongerOutcome slot other (table F request) (table G request)
  unfolding table
  table-longer (CreateFile p) = along (parent-longer slot other m n F G h p) (create action.CreateFile (File []) p (node_at F p) (parent_is_good F p))
      (λ good. create action.CreateFile (File []) p (node_at G p) good) (create-longer slot other action.CreateFile (File []) p (parent_is_good F p)
      (h.nodes p))
  table-longer (DeleteFile p) = delete_file-longer slot other p (h.nodes p)
  table-longer (RenameFile p q) = along (parent-longer slot other m n F G h q)
      (rename p q (node_at F p) (node_at F q) (parent_is_good F q) (is_at_or_below q p) (tree_at F p))
      (λ good. rename p q (node_at G p) (node_at G q) good (is_at_or_below q p) (tree_at G p))
      (rename-longer slot other p q (parent_is_good F q) (is_at_or_below q p) (tree_at F p) (tree_at G p) (h.nodes p) (h.nodes q)
      (tree-longer slot other m n F G h p))
  table-longer (AppendFile p q) = append-longer slot other p (h.nodes p) (h.nodes q)
  table-longer (ReplaceFile p q) = replace-longer slot other p (same_path p q) (h.nodes p) (h.nodes q)
  table-longer (CreateDirectory p) = along (parent-longer slot other m n F G h p) (create action.CreateDirectory Directory p (node_at F p) (parent_is_good F p))
      (λ good. create action.CreateDirectory Directory p (node_at G p) good)
      (create-longer slot other action.CreateDirectory Directory p (parent_is_good F p) (h.nodes p))
  table-longer (RemoveDirectory p) = along (entries-longer slot other m n F G h p) (remove_directory p (node_at F p) (has_entries F p))
      (λ entries. remove_directory p (node_at G p) entries) (remove_directory-longer slot other p (has_entries F p) (h.nodes p))
  table-longer (DenyFile p) = deny_file-longer slot other p (h.nodes p)
  table-longer (DenyDirectory p) = along (entries-longer slot other m n F G h p) (deny_directory p (node_at F p) (has_entries F p))
      (λ entries. deny_directory p (node_at G p) entries) (deny_directory-longer slot other p (has_entries F p) (h.nodes p))

  free_row-longer : (item : Item) → IsLongerOutcome slot other (free_row F slot item) (free_row G other item)
  unfolding free_row
  free_row-longer (Install p) = along (parent-longer slot other m n F G h p) (install slot p (staged_in F slot) (node_at F p) (parent_is_good F p))
      (λ good. install other p (staged_in G other) (node_at G p) good) (install-longer slot other p (staged_in F slot) (staged_in G other)
      (parent_is_good F p) h.staged (h.nodes p))
  free_row-longer (Perform request) = table-longer request

  denied-longer : (item : Item) → IsLongerOutcome slot other (denied item) (denied item)
  denied-longer (Install p) = record { answer = refl; changes = tt }
  denied-longer (Perform request) = record { answer = refl; changes = tt }

  barred-longer : (prefixes : List Path) (item : Item) → is_barred prefixes F item ≡ is_barred prefixes G item
  barred-longer prefixes (Install p) = ap (λ b. b && is_protected prefixes p) (longer-is_some (h.nodes p))
  barred-longer prefixes (Perform request) = refl

  pub row-longer : (prefixes : List Path) (item : Item) → IsLongerOutcome slot other (row prefixes F slot item) (row prefixes G other item)
  unfolding row
  row-longer prefixes item =
      subst (λ barred. IsLongerOutcome slot other (if is_barred prefixes F item then denied item else free_row F slot item) (if barred then denied item
      else free_row G other item))
      (barred-longer prefixes item)
      (elim (is_barred prefixes F item) as (λ barred. IsLongerOutcome slot other (if barred then denied item else free_row F slot item) (if barred
      then denied item else free_row G other item)) [
        | true ↦ denied-longer item
        | false ↦ free_row-longer item
      ])

  pub performed-longer : (prefixes : List Path) (item : Item) → IsLonger slot other m n (performed prefixes F slot item) (performed prefixes G other item)
  performed-longer prefixes item = longer-after slot other m n F G (row prefixes F slot item).changes (row prefixes G other item).changes h
      (row-longer prefixes item).changes

  longer-content : (p : Path) → content (node_at F p) ≤ content (node_at G p)
  longer-content p = of_node (h.nodes p)
    where
      of_node : {a b : Option Node} → Longer a b → content a ≤ content b
      of_node nothing = le_refl 0
      of_node folder = le_refl 0
      of_node (file {xs = xs} {ys = ys} le) = blocks_of-mono (length xs) (length ys) le

  pub step_bound-longer : (item : Item) → step_bound F item ≤ step_bound G item
  unfolding step_bound
  step_bound-longer (Install p) = let more = longer-content p in omega (arith, more)
  step_bound-longer (Perform (CreateFile p)) = le_refl 1
  step_bound-longer (Perform (DeleteFile p)) = let more = longer-content p in omega (arith, more)
  step_bound-longer (Perform (RenameFile p q)) = le_refl 0
  step_bound-longer (Perform (AppendFile p q)) = let more = longer-content q in omega (arith, more)
  step_bound-longer (Perform (ReplaceFile p q)) =
      let first = longer-content p in
      let second = longer-content q in
      elim (same_path p q) as (λ same. (if same then 0 else content (node_at F p) + 2 * content (node_at F q)) ≤ (if same then 0 else content (node_at G p)
      + 2 * content (node_at G q))) [ true ↦ le_refl 0 | false ↦ omega (arith, first, second) ]
  step_bound-longer (Perform (CreateDirectory p)) = le_refl 1
  step_bound-longer (Perform (RemoveDirectory p)) = le_refl 1
  step_bound-longer (Perform (DenyFile p)) = longer-weight (h.nodes p)
  step_bound-longer (Perform (DenyDirectory p)) = let more = longer-weight (h.nodes p) in omega (arith, more)
