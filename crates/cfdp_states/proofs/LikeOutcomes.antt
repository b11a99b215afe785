-- The rows of the action table at nodes that are alike: the same answer, and changes that are alike.
--     as_much                    two changes by which as many blocks come and go
--     Goes                       the same change of a path in both
--     IsLikeOutcome              the same answer and changes;  create-alike, delete_file-alike and so on: of each row
--     along                      where both look at what is the same
--     Installs, install_row-alike      the install of a delivered file
use Rattle.std.proofs.Common.{◌≡◌, refl, sym, ◌∙◌, subst, ◌↔◌, Bool, true, false, Option, Some, ℕ, ◌+◌, List, [], ◌∷◌, length-append, arith, if◌then◌else◌}
use Rattle.cfdp_paths.specs.Paths.{Path}
use Rattle.cfdp_status.specs.declared.action.Action.{Action}
use Rattle.cfdp_actions.specs.Filestore.{Node, Directory, File, Change, Becomes}
use Rattle.cfdp_actions.specs.Actions.{NotInstalled, Outcome, unchanged, create, delete_file, append, replace, remove_directory, deny_file, deny_directory, install_outcome, install, is_protected}
use Rattle.cfdp_states.proofs.Installing.{install_row}
use Rattle.cfdp_states.proofs.LikeNodes.{Like, nothing, folder, file, like-itself}

-- ---- one change

-- b and d blocks before a change and c and e after it, where as much goes and comes
pub as_much : (b c d e old old' new new' : ℕ) → c + old ≡ b + new → e + old' ≡ d + new' → old ≡ old' → new ≡ new' → c + d ≡ e + b
as_much b c d e old old' new new' first second same comes = omega arith

pub both_ways_on : {A B C D : Type 0} → A ↔ B → B ↔ C → C ↔ D → A ↔ D
both_ways_on f g h = ((λ a. h.0 (g.0 (f.0 a))), (λ d. f.1 (g.1 (h.1 d))))

pub turned : {A B : Type 0} → A ↔ B → B ↔ A
turned f = (f.1, f.0)

pub data Goes (p : Path) : List Change → List Change → Type 0 where
  still : Goes p [] []
  becomes : {a b : Option Node} → Like a b → Goes p (Becomes p a ∷ []) (Becomes p b ∷ [])

-- ---- the rows of one path, and those that join two files

pub record IsLikeOutcome (p : Path) (o r : Outcome) : Type 0 where
  pub answer : o.answer ≡ r.answer
  pub goes : Goes p o.changes r.changes

module _ (p : Path) where
  pub create-alike : (action : Action) (node : Node) {a b : Option Node} (good : Bool) → Like a b →
      IsLikeOutcome p (create action node p a good) (create action node p b good)
  unfolding create
  create-alike action node true nothing = record { answer = refl; goes = becomes (like-itself (Some node)) }
  create-alike action node false nothing = record { answer = refl; goes = still }
  create-alike action node good folder = record { answer = refl; goes = still }
  create-alike action node good (file e) = record { answer = refl; goes = still }

  pub delete_file-alike : {a b : Option Node} → Like a b → IsLikeOutcome p (delete_file p a) (delete_file p b)
  unfolding delete_file
  delete_file-alike nothing = record { answer = refl; goes = still }
  delete_file-alike folder = record { answer = refl; goes = still }
  delete_file-alike (file e) = record { answer = refl; goes = becomes nothing }

  pub remove_directory-alike : {a b : Option Node} (entries : Bool) → Like a b → IsLikeOutcome p (remove_directory p a entries) (remove_directory p b entries)
  unfolding remove_directory
  remove_directory-alike entries nothing = record { answer = refl; goes = still }
  remove_directory-alike true folder = record { answer = refl; goes = still }
  remove_directory-alike false folder = record { answer = refl; goes = becomes nothing }
  remove_directory-alike entries (file e) = record { answer = refl; goes = still }

  pub deny_file-alike : {a b : Option Node} → Like a b → IsLikeOutcome p (deny_file p a) (deny_file p b)
  unfolding deny_file
  deny_file-alike nothing = record { answer = refl; goes = still }
  deny_file-alike folder = record { answer = refl; goes = still }
  deny_file-alike (file e) = record { answer = refl; goes = becomes nothing }

  pub deny_directory-alike : {a b : Option Node} (entries : Bool) → Like a b → IsLikeOutcome p (deny_directory p a entries) (deny_directory p b entries)
  unfolding deny_directory
  deny_directory-alike entries nothing = record { answer = refl; goes = still }
  deny_directory-alike true folder = record { answer = refl; goes = still }
  deny_directory-alike false folder = record { answer = refl; goes = becomes nothing }
  deny_directory-alike entries (file e) = record { answer = refl; goes = still }

  pub append-alike : {a b c d : Option Node} → Like a b → Like c d → IsLikeOutcome p (append p a c) (append p b d)
  unfolding append
  append-alike nothing more = record { answer = refl; goes = still }
  append-alike folder nothing = record { answer = refl; goes = still }
  append-alike folder folder = record { answer = refl; goes = still }
  append-alike folder (file e) = record { answer = refl; goes = still }
  append-alike (file e) nothing = record { answer = refl; goes = still }
  append-alike (file e) folder = record { answer = refl; goes = still }
  append-alike (file {xs = xs} {ys = ys} e) (file {xs = us} {ys = vs} f) =
      record { answer = refl; goes = becomes (file (length-append xs us ∙ (λ i. e i + f i) ∙ sym (length-append ys vs))) }

  pub replace-alike : (same : Bool) {a b c d : Option Node} → Like a b → Like c d → IsLikeOutcome p (replace p same a c) (replace p same b d)
  unfolding replace
  replace-alike same nothing more = record { answer = refl; goes = still }
  replace-alike same folder nothing = record { answer = refl; goes = still }
  replace-alike same folder folder = record { answer = refl; goes = still }
  replace-alike same folder (file e) = record { answer = refl; goes = still }
  replace-alike same (file e) nothing = record { answer = refl; goes = still }
  replace-alike same (file e) folder = record { answer = refl; goes = still }
  replace-alike true (file e) (file f) = record { answer = refl; goes = still }
  replace-alike false (file e) (file f) = record { answer = refl; goes = becomes (file f) }

-- the second outcome looks at b, where a and b are one
pub along : {p : Path} {a b : Bool} → a ≡ b → (o : Outcome) (r : Bool → Outcome) → IsLikeOutcome p o (r a) → IsLikeOutcome p o (r b)
along {p} e o r h = subst (λ x. IsLikeOutcome p o (r x)) e h

-- ---- the install of a delivered file

pub data Installs (p : Path) (x : List ℕ) : Outcome → Outcome → Type 0 where
  stays : Installs p x (unchanged NotInstalled) (unchanged NotInstalled)
  comes : (taken given taken' given' : ℕ) → Installs p x (install_outcome 0 p x taken given) (install_outcome 0 p x taken' given')

install-alike : (p : Path) (x : List ℕ) {a b : Option Node} (good : Bool) → Like a b → Installs p x (install 0 p x a good) (install 0 p x b good)
unfolding install
install-alike p x false nothing = stays
install-alike p x true nothing = comes _ _ _ _
install-alike p x false folder = stays
install-alike p x true folder = stays
install-alike p x false (file e) = stays
install-alike p x true (file e) = comes _ _ _ _

pub install_row-alike : (prefixes : List Path) (p : Path) (x : List ℕ) {a b : Option Node} (good : Bool) → Like a b →
    Installs p x (install_row prefixes p x a good) (install_row prefixes p x b good)
install_row-alike prefixes p x good nothing = install-alike p x good nothing
install_row-alike prefixes p x good folder = elim (is_protected prefixes p) as
    (λ b. Installs p x (if b then unchanged NotInstalled else install 0 p x (Some Directory) good) (if b then unchanged NotInstalled
    else install 0 p x (Some Directory) good)) [
      | true ↦ stays
      | false ↦ install-alike p x good folder
    ]
install_row-alike prefixes p x good (file {xs = xs} {ys = ys} e) = elim (is_protected prefixes p) as
    (λ b. Installs p x (if b then unchanged NotInstalled else install 0 p x (Some (File xs)) good) (if b then unchanged NotInstalled
    else install 0 p x (Some (File ys)) good)) [
      | true ↦ stays
      | false ↦ install-alike p x good (file e)
    ]
