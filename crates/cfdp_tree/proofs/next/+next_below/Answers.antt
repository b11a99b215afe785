use Rattle.std.proofs.Common.{◌≡◌, ◌++◌, ℕ, false, [], ◌∷◌, length, is_some, Option, Some, None, refl, sym, ap, ◌∙◌, subst, arith}
use Rattle.std.proofs.lemmas.List.Elements.{All-head, All-tail}
use Rattle.std.proofs.lemmas.Option.{IfSome_then}
use Rattle.std.specs.Prelude.{All, IfSome, IfNone}
use Rattle.std.proofs.lemmas.Option.{same_Some}
use Rattle.cfdp_arena.specs.Arena.{Blocks}
use Rattle.cfdp_paths.specs.Paths.{Name, Path, IsName}
use Rattle.cfdp_tree.specs.code.Nodes.{nodes_in}
use Rattle.cfdp_tree.specs.code.Tree.{IsTree, IsNode, IsEntry, path_of_node}
use Rattle.cfdp_tree.specs.code.Directories.{path_at, IsAtPath}
use Rattle.cfdp_tree.specs.code.Orders.{in_order}
use Rattle.cfdp_tree.specs.code.Next.{ComesAfter, IsFirst}
use Rattle.cfdp_tree.proofs.OfNodes.ClimbLaws.{path_entry}
use Rattle.cfdp_tree.proofs.OfOrders.LeastLaws.{none_then}
use Rattle.cfdp_tree.proofs.OfOrders.OrderedLaws.{listed_in}
use Rattle.cfdp_tree.proofs.OfOrders.NextLaws.{least_first, none_first, apart_last, apart_name, following_name, none_below, first_below, NoneBelow}
use Rattle.cfdp_tree.proofs.next.+next_below.Goals as goal
use Rattle.cfdp_tree.proofs.next.+next_below.Goals.{in-Some-find+else-is_some, in_default-find}

no_result : {A : Type 0} (r : Option A) {P : Type 0} → is_some r ≡ false → IfNone r P → P
no_result None absent p = p
no_result (Some x) absent p = cc

not_some : {A : Type 0} (r : Option A) {P : Type 0} → ((x : A) → r ≡ Some x → ⊥) → IfNone r P → P
not_some None absent p = p
not_some (Some x) absent p = absurd (absent x refl)

-- the node or the root of the call
here : (nodes : Blocks) (directory : Option ℕ) → ((d : ℕ) → directory ≡ Some d → IsNode nodes d) → IsAtPath nodes directory (path_at nodes directory)
here nodes directory node = record { node = node; path = refl }

pub returns-in_default-clause-first : goal.returns-in_default-clause-first
returns-in_default-clause-first t c =
    let nodes = nodes_in c.args.arena.now in let directory = c.args.directory.now in let a = path_at nodes directory in let list =
    in_order c.args.orders.now directory in
    let exists = here nodes directory c.requires.directory in
    subst (λ (names : Path). IfSome c.least_after.result (λ b. IsFirst nodes a (a ++ names) b)) (sym c.in_default.ensures.steps.0)
    (IfSome_then c.least_after.result c.least_after.ensures.least
    (least_first nodes c.requires.tree directory a exists list (listed_in nodes c.args.orders.now c.requires.ordered directory) [] None
    (apart_last nodes c.requires.tree directory a exists list (listed_in nodes c.args.orders.now c.requires.ordered directory)) (λ m following. refl)))

pub returns-in_default-clause-none : goal.returns-in_default-clause-none
returns-in_default-clause-none t c =
    let nodes = nodes_in c.args.arena.now in let directory = c.args.directory.now in let a = path_at nodes directory in let list =
    in_order c.args.orders.now directory in
    let exists = here nodes directory c.requires.directory in
    subst (λ (names : Path). IfNone c.least_after.result ((b : ℕ) → ComesAfter nodes a (a ++ names) b → ⊥)) (sym c.in_default.ensures.steps.0)
    (none_then c.least_after.result c.least_after.ensures.none
    (none_first nodes c.requires.tree directory a exists list (listed_in nodes c.args.orders.now c.requires.ordered directory) [] None
    (apart_last nodes c.requires.tree directory a exists list (listed_in nodes c.args.orders.now c.requires.ordered directory))))

names_good : (p rest : Path) (name : Name) → p ≡ name ∷ rest → All IsName p → IsName name × All IsName rest
names_good p rest name e all = let parts = subst (All IsName) e all in (All-head IsName name rest parts, All-tail IsName name rest parts)

pub find-requires-clause-short : goal.find-requires-clause-short
find-requires-clause-short t c = (names_good c.args.names c.next.new.self c.in-Some.name.now c.in-Some.ensures.steps c.requires.names).0.short

pub next_below-below-requires : goal.next_below-below-requires
next_below-below-requires t c =
    let nodes = nodes_in c.args.arena.now in let node = c.in-Some-find.ensures.found.node in (
      omega (arith, ap length c.in-Some.ensures.steps, c.decreases),
      (
        c.requires.tree,
        (
          c.requires.ordered,
          (
            λ x e. subst (IsNode nodes) (same_Some _ _ e) node,
            (names_good c.args.names c.next.new.self c.in-Some.name.now c.in-Some.ensures.steps c.requires.names).1,
          ),
        ),
      ),
    )

pub returns-then-is_some-clause-first : goal.returns-then-is_some-clause-first
returns-then-is_some-clause-first t c =
    let nodes = nodes_in c.args.arena.now in let directory = c.args.directory.now in let a = path_at nodes directory in let name =
    c.in-Some.name.now in let rest : Path =
    c.next.new.self in
    let exists = here nodes directory c.requires.directory in
    let way = path_entry nodes c.requires.tree directory a name c.in-Some-find.node exists c.in-Some-find.ensures.found in
    subst (λ (names : Path). IfSome c.next_below-below.result (λ b. IsFirst nodes a (a ++ names) b)) (sym c.in-Some.ensures.steps)
    (IfSome_then c.next_below-below.result
    (subst (λ q. IfSome c.next_below-below.result (λ b. IsFirst nodes q (q ++ rest) b)) way c.next_below-below.ensures.first)
    (first_below nodes c.requires.tree directory a exists name rest))

-- nothing follows below the name's own path
none_found : (nodes : Blocks) (tree : IsTree nodes) (directory : Option ℕ) (exists : IsAtPath nodes directory (path_at nodes directory)) (name : Name)
    (rest : Path)
    (d : ℕ) → IsEntry nodes directory name d
    → ((b : ℕ) → ComesAfter nodes (path_of_node nodes d) (path_of_node nodes d ++ rest) b → ⊥) → NoneBelow nodes tree directory
    (path_at nodes directory) exists name rest
none_found nodes tree directory exists name rest d entry none c follows =
    let way = path_entry nodes tree directory (path_at nodes directory) name d exists entry in
    none c (subst (λ q. ComesAfter nodes q (q ++ rest) c) (sym way) follows)

pub returns-clause-first : goal.returns-clause-first
returns-clause-first t c =
    let nodes = nodes_in c.args.arena.now in let tree = c.requires.tree in let directory = c.args.directory.now in let a = path_at nodes directory in let name =
    c.in-Some.name.now in let rest : Path = c.next.new.self in
    let list = in_order c.args.orders.now directory in
    let exists = here nodes directory c.requires.directory in
    let none : NoneBelow nodes tree directory a exists name rest = elim c.match-find.branch [
      | in-Some-find+else-is_some w ↦ none_found nodes tree directory exists name rest w.in-Some-find.node w.in-Some-find.ensures.found
          (no_result w.next_below-below.result (sym w.is_some.ensures ∙ w.if-is_some.false) w.next_below-below.ensures.none)
      | in_default-find w ↦ none_below nodes tree directory a exists name rest (not_some c.find.result w.in_default-find.not-Some c.find.ensures.none)
    ] in
    subst (λ (names : Path). IfSome c.least_after-2.result (λ b. IsFirst nodes a (a ++ names) b)) (sym c.in-Some.ensures.steps)
    (IfSome_then c.least_after-2.result c.least_after-2.ensures.least
    (least_first nodes tree directory a exists list (listed_in nodes c.args.orders.now c.requires.ordered directory) (name ∷ rest) (Some name)
    (apart_name nodes tree directory a exists name rest list (listed_in nodes c.args.orders.now c.requires.ordered directory) none)
    (following_name nodes tree directory a exists name rest)))

pub returns-clause-none : goal.returns-clause-none
returns-clause-none t c =
    let nodes = nodes_in c.args.arena.now in let tree = c.requires.tree in let directory = c.args.directory.now in let a = path_at nodes directory in let name =
    c.in-Some.name.now in let rest : Path = c.next.new.self in
    let list = in_order c.args.orders.now directory in
    let exists = here nodes directory c.requires.directory in
    let none : NoneBelow nodes tree directory a exists name rest = elim c.match-find.branch [
      | in-Some-find+else-is_some w ↦ none_found nodes tree directory exists name rest w.in-Some-find.node w.in-Some-find.ensures.found
          (no_result w.next_below-below.result (sym w.is_some.ensures ∙ w.if-is_some.false) w.next_below-below.ensures.none)
      | in_default-find w ↦ none_below nodes tree directory a exists name rest (not_some c.find.result w.in_default-find.not-Some c.find.ensures.none)
    ] in
    subst (λ (names : Path). IfNone c.least_after-2.result ((b : ℕ) → ComesAfter nodes a (a ++ names) b → ⊥)) (sym c.in-Some.ensures.steps)
    (none_then c.least_after-2.result c.least_after-2.ensures.none
    (none_first nodes tree directory a exists list (listed_in nodes c.args.orders.now c.requires.ordered directory) (name ∷ rest) (Some name)
    (apart_name nodes tree directory a exists name rest list (listed_in nodes c.args.orders.now c.requires.ordered directory) none)))
