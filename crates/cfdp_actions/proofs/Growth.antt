-- The blocks after a row: those before, more by what it takes and less by what it gives back.
use Rattle.std.proofs.Common.{◌≡◌, refl, ◌∙◌, ap, subst, Bool, true, false, Option, Some, None, ℕ, ◌+◌, ◌<◌, ◌≤◌, [], ◌++◌, length, arith}
use Rattle.std.proofs.Common.{length-append}
use Rattle.cfdp_paths.specs.Paths.{Path}
use Rattle.cfdp_status.specs.declared.action.Action.{Action}
use Rattle.cfdp_actions.specs.Filestore.{Node, Directory, File, Filestore, node_at, staged_in, blocks_of, weight, blocks, Becomes, Stages, changed, after}
use Rattle.cfdp_actions.specs.Actions.{Outcome, create, delete_file, append, replace, remove_directory, deny_file, deny_directory, install}
use Rattle.cfdp_actions.proofs.RowLaws.{blocks_of-mono}
use Rattle.cfdp_actions.proofs.Weights.{blocks-becomes, blocks-stages}

abbrev pub Grows : Filestore → Outcome → Type 0
Grows F o = blocks (after F o.changes) + o.given ≡ blocks F + o.taken

pub grows_one : (F : Filestore) (p : Path) (node a : Option Node) → node_at F p ≡ a → blocks (changed F (Becomes p node)) + weight a ≡ blocks F + weight node
grows_one F p node a e = subst (λ v. blocks (changed F (Becomes p node)) + weight v ≡ blocks F + weight node) e (blocks-becomes F p node)

pub blocks_of-zero : blocks_of 0 ≡ 0
unfolding blocks_of
blocks_of-zero = refl

pub create-grows : (F : Filestore) (action : Action) (node : Node) (p : Path) (a : Option Node) (good : Bool) → node_at F p ≡ a → weight (Some node) ≡ 1 →
    Grows F (create action node p a good)
unfolding create
create-grows F action node p (Some _) good e w = refl
create-grows F action node p None false e w = refl
create-grows F action node p None true e w =
    let g : blocks (changed F (Becomes p (Some node))) + 0 ≡ blocks F + weight (Some node) = grows_one F p (Some node) None e in
    g ∙ ap (λ n. blocks F + n) w

gone-grows : (F : Filestore) (p : Path) (a : Option Node) → node_at F p ≡ a → blocks (changed F (Becomes p None)) + weight a ≡ blocks F + 0
gone-grows F p a e = grows_one F p None a e

pub delete_file-grows : (F : Filestore) (p : Path) (a : Option Node) → node_at F p ≡ a → Grows F (delete_file p a)
unfolding delete_file
delete_file-grows F p None e = refl
delete_file-grows F p (Some Directory) e = refl
delete_file-grows F p (Some (File octets)) e = gone-grows F p _ e

pub remove_directory-grows : (F : Filestore) (p : Path) (a : Option Node) (entries : Bool) → node_at F p ≡ a → Grows F (remove_directory p a entries)
unfolding remove_directory
remove_directory-grows F p None entries e = refl
remove_directory-grows F p (Some (File octets)) entries e = refl
remove_directory-grows F p (Some Directory) true e = refl
remove_directory-grows F p (Some Directory) false e = gone-grows F p _ e

pub deny_file-grows : (F : Filestore) (p : Path) (a : Option Node) → node_at F p ≡ a → Grows F (deny_file p a)
unfolding deny_file
deny_file-grows F p None e = refl
deny_file-grows F p (Some Directory) e = refl
deny_file-grows F p (Some (File octets)) e = gone-grows F p _ e

pub deny_directory-grows : (F : Filestore) (p : Path) (a : Option Node) (entries : Bool) → node_at F p ≡ a → Grows F (deny_directory p a entries)
unfolding deny_directory
deny_directory-grows F p None entries e = refl
deny_directory-grows F p (Some (File octets)) entries e = refl
deny_directory-grows F p (Some Directory) true e = refl
deny_directory-grows F p (Some Directory) false e = gone-grows F p _ e

pub append-grows : (F : Filestore) (p : Path) (a b : Option Node) → node_at F p ≡ a → Grows F (append p a b)
unfolding append
append-grows F p None b e = refl
append-grows F p (Some a) None e = refl
append-grows F p (Some Directory) (Some b) e = refl
append-grows F p (Some (File xs)) (Some Directory) e = refl
append-grows F p (Some (File xs)) (Some (File ys)) e =
    let g : blocks (changed F (Becomes p (Some (File (xs ++ ys))))) + (1 + blocks_of (length xs)) ≡ blocks F + (1 + blocks_of (length (xs ++ ys))) =
    grows_one F p (Some (File (xs ++ ys))) (Some (File xs)) e in
    let l : blocks_of (length (xs ++ ys)) ≡ blocks_of (length xs + length ys) = ap blocks_of (length-append xs ys) in
    let more : blocks_of (length xs) ≤ blocks_of (length xs + length ys) = blocks_of-mono _ _ (omega arith) in
    omega arith

pub replace-grows : (F : Filestore) (p : Path) (same : Bool) (a b : Option Node) → node_at F p ≡ a → Grows F (replace p same a b)
unfolding replace
replace-grows F p same None b e = refl
replace-grows F p same (Some a) None e = refl
replace-grows F p same (Some Directory) (Some b) e = refl
replace-grows F p same (Some (File xs)) (Some Directory) e = refl
replace-grows F p true (Some (File xs)) (Some (File ys)) e = refl
replace-grows F p false (Some (File xs)) (Some (File ys)) e =
    let g : blocks (changed F (Becomes p (Some (File ys)))) + (1 + blocks_of (length xs)) ≡ blocks F + (1 + blocks_of (length ys)) =
    grows_one F p (Some (File ys)) (Some (File xs)) e in
    omega arith

emptied : (F : Filestore) (slot : ℕ) → slot < length F.staged → blocks (changed F (Stages slot [])) + blocks_of (length (staged_in F slot)) ≡ blocks F
emptied F slot h =
    let g : blocks (changed F (Stages slot [])) + blocks_of (length (staged_in F slot)) ≡ blocks F + blocks_of 0 = blocks-stages F slot [] h in
    let z : blocks_of 0 ≡ 0 = blocks_of-zero in
    omega arith

pub install-grows : (F : Filestore) (slot : ℕ) (p : Path) (a : Option Node) (good : Bool) → slot < length F.staged → node_at F p ≡ a →
    Grows F (install slot p (staged_in F slot) a good)
unfolding install
install-grows F slot p None false h e = refl
install-grows F slot p (Some node) false h e = refl
install-grows F slot p (Some Directory) true h e = refl
install-grows F slot p None true h e =
    let octets = staged_in F slot in
    let free : blocks (changed F (Stages slot [])) + blocks_of (length octets) ≡ blocks F = emptied F slot h in
    let g : blocks (changed (changed F (Stages slot [])) (Becomes p (Some (File octets)))) + 0 ≡ blocks (changed F (Stages slot []))
    + (1 + blocks_of (length octets)) = grows_one (changed F (Stages slot [])) p (Some (File octets)) None e in
    omega arith
install-grows F slot p (Some (File old)) true h e =
    let octets = staged_in F slot in
    let free : blocks (changed F (Stages slot [])) + blocks_of (length octets) ≡ blocks F = emptied F slot h in
    let g : blocks (changed (changed F (Stages slot [])) (Becomes p (Some (File octets)))) + (1 + blocks_of (length old)) ≡ blocks (changed F (Stages slot []))
    + (1 + blocks_of (length octets)) = grows_one (changed F (Stages slot [])) p (Some (File octets)) (Some (File old)) e in
    omega arith
