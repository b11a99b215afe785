use Rattle.std.proofs.Common.{◌≡◌, ◌++◌, ℕ, List, Option, Some, None, Bor, sym, ap, ◌∙◌, subst}
use Rattle.std.specs.Option.{option_map}
use Rattle.std.specs.Prelude.{All, IfSome, IfNone}
use Rattle.std.specs.List.{slice_get}
use Rattle.cfdp_arena.specs.Arena.{Blocks}
use Rattle.cfdp_paths.specs.Paths.{Name}
use Rattle.cfdp_order.specs.Orders as trees
use Rattle.cfdp_order.specs.Orders.{SplitsAfter}
use Rattle.cfdp_order.proofs.SortedLaws.{splits_after}
use Rattle.cfdp_paths.specs.code.Paths.{name_cmp}
use Rattle.cfdp_tree.specs.declared.orders.Orders.{Orders}
use Rattle.cfdp_tree.specs.code.Nodes.{nodes_in}
use Rattle.cfdp_tree.specs.code.Tree.{name_at}
use Rattle.cfdp_tree.specs.code.Next.{IsFollowing, IsLeast}
use Rattle.cfdp_tree.specs.code.Orders.{in_order, IsInOrders}
use Rattle.cfdp_tree.proofs.OfOrders.OrderLaws.{directory_inside}
use Rattle.cfdp_tree.proofs.OfOrders.SortLaws.{first_least, after_least, greater_last}
use Rattle.cfdp_tree.proofs.orders.Orders.least_after.Goals as goal
use Rattle.cfdp_tree.proofs.orders.Orders.least_after.Goals.{in-Some+in_ok-found-in-Some, in-None+in_ok-found-in-None}

pub of-order-requires : goal.of-order-requires
of-order-requires c =
    record { within = directory_inside (nodes_in c.args.arena.now) c.args.self.now _ c.args.directory.now c.requires.ordered c.requires.directory }

-- what a search after a name finds
abbrev FoundAfter : Blocks → Option Name → List ℕ → Option ℕ → Type 0
FoundAfter nodes after list r = IfSome r (IsLeast nodes after list) × IfNone r (All (λ c. IsFollowing after (name_at nodes c) → ⊥) list)

described : (nodes : Blocks) (orders : Orders) (directory : Option ℕ) (ordered : IsInOrders nodes orders None) (name : Name) (list : List ℕ) → list
    ≡ in_order orders directory → (r : Option ℕ)
    → ((before after : List ℕ) → list ≡ before ++ after → SplitsAfter (λ m. name_cmp (name_at nodes m) name) before after → r ≡ slice_get after 0) →
    FoundAfter nodes (Some name) (in_order orders directory) r
described nodes orders directory ordered name list is r found =
    let own = in_order orders directory in let rising = ordered.rising directory in
    let s = splits_after (λ m. name_cmp (name_at nodes m) name) own (greater_last nodes name own rising) in
    after_least nodes own rising name s.0 s.1 s.2 s.3 r (found s.0 s.1 (is ∙ s.2) s.3)

-- what none found says
none_stated : (nodes : Blocks) (given : Option (Bor Name)) (after : Option Name) (list : List ℕ) (r : Option ℕ) {X : Type 0} (found : Option X) →
    option_map (λ name. name.now) given ≡ after → r ≡ None → found ≡ None → FoundAfter nodes after list r
    → IfNone found (All (λ c. IsFollowing (option_map (λ name. name.now) given) (name_at nodes c) → ⊥) list)
none_stated nodes given after list r found is none same both =
    subst (λ o. IfNone o (All (λ c. IsFollowing (option_map (λ name. name.now) given) (name_at nodes c) → ⊥) list)) (sym same)
    (subst (λ a. All (λ c. IsFollowing a (name_at nodes c) → ⊥) list) (sym is)
    (subst (λ o. IfNone o (All (λ c. IsFollowing after (name_at nodes c) → ⊥) list)) none both.1))

some_stated : (nodes : Blocks) (given : Option (Bor Name)) (after : Option Name) (list : List ℕ) (r : Option ℕ) (b c : ℕ) → option_map (λ name. name.now) given
    ≡ after → r ≡ Some b → c ≡ b → FoundAfter nodes after list r
    → IsLeast nodes (option_map (λ name. name.now) given) list c
some_stated nodes given after list r b c is some same both =
    subst (λ x. IsLeast nodes (option_map (λ name. name.now) given) list x) (sym same)
    (subst (λ a. IsLeast nodes a list b) (sym is) (subst (λ o. IfSome o (IsLeast nodes after list)) some both.0))

pub returns-in_err-found-in-Some-clause-none : goal.returns-in_err-found-in-Some-clause-none
returns-in_err-found-in-Some-clause-none c =
    let nodes = nodes_in c.args.arena.now in
    let both = described nodes c.args.self.now c.args.directory.now c.requires.ordered c.in-Some.name.now _
    (λ k. trees.nodes (c.deref.ensures.value k) (c.of-order.ensures k)) c.first_after.result c.first_after.ensures in
    none_stated nodes c.args.after (Some c.in-Some.name.now) (in_order c.args.self.now c.args.directory.now) c.first_after.result c.from_residual.result
    (ap (option_map (λ name. name.now)) c.in-Some.is) (c.in_err-found-in-Some.was) c.from_residual.ensures both

pub returns-in_err-found-in-None-clause-none : goal.returns-in_err-found-in-None-clause-none
returns-in_err-found-in-None-clause-none c =
    let nodes = nodes_in c.args.arena.now in let orders = c.args.self.now in let directory = c.args.directory.now in
    let same : trees.nodes c.deref-in-None.result.now c.of-order.result ≡ in_order orders directory =
    λ k. trees.nodes (c.deref-in-None.ensures.value k) (c.of-order.ensures k) in
    let both = first_least nodes (in_order orders directory) (c.requires.ordered.rising directory) c.first.result
    (c.first.ensures ∙ ap (λ l. slice_get l 0) same) in
    none_stated nodes c.args.after None (in_order orders directory) c.first.result c.from_residual-in_err-found-in-None.result
    (ap (option_map (λ name. name.now)) c.in-None.is) (c.in_err-found-in-None.was) c.from_residual-in_err-found-in-None.ensures both

pub returns-clause-least : goal.returns-clause-least
returns-clause-least c =
    let nodes = nodes_in c.args.arena.now in let orders = c.args.self.now in let directory = c.args.directory.now in
    let is = c.of_number.ensures.same_number ∙ c.from.ensures in
    elim c.match-after.branch [
      | in-Some+in_ok-found-in-Some w ↦ (
          let both = described nodes orders directory c.requires.ordered w.in-Some.name.now _
          (λ k. trees.nodes (w.deref.ensures.value k) (c.of-order.ensures k)) w.first_after.result w.first_after.ensures in
          some_stated nodes c.args.after (Some w.in-Some.name.now) (in_order orders directory) w.first_after.result _ c.of_number.result
          (ap (option_map (λ name. name.now)) w.in-Some.is) (w.in_ok-found-in-Some.was) (is ∙ w.found-is) both)
      | in-None+in_ok-found-in-None w ↦ (
          let same : trees.nodes w.deref-in-None.result.now c.of-order.result ≡ in_order orders directory =
          λ k. trees.nodes (w.deref-in-None.ensures.value k) (c.of-order.ensures k) in
          let both = first_least nodes (in_order orders directory) (c.requires.ordered.rising directory) w.first.result (w.first.ensures
          ∙ ap (λ l. slice_get l 0) same) in
          some_stated nodes c.args.after None (in_order orders directory) w.first.result _ c.of_number.result (ap (option_map (λ name. name.now)) w.in-None.is)
          (w.in_ok-found-in-None.was) (is ∙ w.found-is) both)
    ]
