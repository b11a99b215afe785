use Rattle.std.proofs.Common.{◌≡◌, ◌≤◌, ℕ, List, ◌++◌, Option, Some, None, sym, ap, ◌∙◌, subst}
use Rattle.std.specs.List.{slice_get}
use Rattle.std.specs.Prelude.{All, Contains, IfNone}
use Rattle.std.proofs.lemmas.Bool.{both_ways}
use Rattle.std.proofs.lemmas.Option.{none-some}
use Rattle.cfdp_arena.specs.Arena.{Blocks}
use Rattle.cfdp_paths.specs.Paths.{Name}
use Rattle.cfdp_order.specs.Orders as trees
use Rattle.cfdp_order.specs.Orders.{SplitsFrom}
use Rattle.cfdp_order.proofs.MemberLaws.{contains_times}
use Rattle.cfdp_order.proofs.SortedLaws.{splits_from}
use Rattle.cfdp_paths.specs.code.Paths.{name_cmp}
use Rattle.cfdp_tree.specs.declared.orders.Orders.{Orders}
use Rattle.cfdp_tree.specs.code.NodeFields.{node_fields_of, node_name}
use Rattle.cfdp_tree.specs.code.Nodes.{nodes_in}
use Rattle.cfdp_tree.specs.code.Tree.{name_at, IsEntry}
use Rattle.cfdp_tree.specs.code.Entries.{IsMember}
use Rattle.cfdp_tree.specs.code.Orders.{in_order, IsInOrders}
use Rattle.cfdp_tree.proofs.OfNodes.TreeLaws.{node_live, node_octets}
use Rattle.cfdp_tree.proofs.OfOrders.OrderLaws.{member_at, directory_inside}
use Rattle.cfdp_tree.proofs.OfOrders.SortLaws.{at_times, less_first, none_from, other_from, there_from}
use Rattle.cfdp_tree.proofs.orders.Orders.find.Goals as goal

pub of-order-requires : goal.of-order-requires
of-order-requires c =
    record { within = directory_inside (nodes_in c.args.arena.now) c.args.self.now _ c.args.directory.now c.requires.ordered c.requires.directory }

-- what a search for a name finds
module _ (nodes : Blocks) (orders : Orders) (directory : Option ℕ) (ordered : IsInOrders nodes orders None) (name : Name) (list : List ℕ) (is : list
    ≡ in_order orders directory) (r : Option ℕ)
    (ends : (before after : List ℕ) → list ≡ before ++ after → SplitsFrom (λ m. name_cmp (name_at nodes m) name) before after → r ≡ slice_get after 0) where
  abbrev own : List ℕ
  own = in_order orders directory

  parts : (before : List ℕ) × (after : List ℕ) × (own ≡ before ++ after) × SplitsFrom (λ m. name_cmp (name_at nodes m) name) before after
  parts = splits_from (λ m. name_cmp (name_at nodes m) name) own (less_first nodes name own (ordered.rising directory))

  found_is : r ≡ slice_get parts.1 0
  found_is = ends parts.0 parts.1 (is ∙ parts.2) parts.3

  absent : All (λ e. name_at nodes e ≡ name → ⊥) own → (e : ℕ) → IsEntry nodes directory name e → ⊥
  absent all e entry = at_times (λ e. name_at nodes e ≡ name → ⊥) own e all
      (contains_times own e (subst (λ p. Contains (in_order orders p) e) entry.there (ordered.all e entry.node (none-some e)))) entry.named

  none_entry : r ≡ None → (e : ℕ) → IsEntry nodes directory name e → ⊥
  none_entry none = absent (none_from nodes own (ordered.rising directory) name parts.0 parts.1 parts.2 parts.3 (sym found_is ∙ none))

  other_entry : (b : ℕ) → r ≡ Some b → (name_at nodes b ≡ name → ⊥) → (e : ℕ) → IsEntry nodes directory name e → ⊥
  other_entry b some other = absent (other_from nodes own (ordered.rising directory) name parts.0 parts.1 parts.2 parts.3 b (sym found_is ∙ some) other)

  found_member : (b : ℕ) → r ≡ Some b → IsMember nodes None directory b
  found_member b some = member_at nodes orders None ordered directory b (there_from nodes own (ordered.rising directory) name parts.0 parts.1 parts.2 parts.3 b
      (sym found_is ∙ some))

pub returns-in_err-found-clause-none : goal.returns-in_err-found-clause-none
returns-in_err-found-clause-none c =
    let nodes = nodes_in c.args.arena.now in let directory = c.args.directory.now in let name = c.args.name.now in
    subst (λ r. IfNone r ((b : ℕ) → IsEntry nodes directory name b → ⊥)) (sym c.from_residual.ensures)
    (none_entry nodes c.args.self.now directory c.requires.ordered name _ (λ k. trees.nodes (c.deref.ensures.value k)
    (c.of-order.ensures k)) c.first_from.result
    c.first_from.ensures c.in_err-found.was)

pub bytes-requires : goal.bytes-requires
bytes-requires c =
    let number = c.of_number-node.ensures.same_number ∙ c.from.ensures in
    let member = found_member (nodes_in c.args.arena.now) c.args.self.now c.args.directory.now c.requires.ordered c.args.name.now _
    (λ k. trees.nodes (c.deref.ensures.value k) (c.of-order.ensures k))
    c.first_from.result c.first_from.ensures c.of_number-node.result (c.in_ok-found.was ∙ ap Some (sym number)) in
    record { live = node_live c.args.arena.now c.of_number-node.result member.node }

pub name_is-requires-clause-fits : goal.name_is-requires-clause-fits
name_is-requires-clause-fits c =
    let number = c.of_number-node.ensures.same_number ∙ c.from.ensures in let arena = c.args.arena.now in let b = c.of_number-node.result in
    let member = found_member (nodes_in arena) c.args.self.now c.args.directory.now c.requires.ordered c.args.name.now _
    (λ k. trees.nodes (c.deref.ensures.value k) (c.of-order.ensures k))
    c.first_from.result c.first_from.ensures b (c.in_ok-found.was ∙ ap Some (sym number)) in
    subst (λ o. (node_fields_of o).name_length ≤ 96) (sym (node_octets arena b member.node c.bytes.result.now c.bytes.ensures.octets))
    (c.requires.tree.named b member.node).fits

pub returns-then-name_is-clause-found : goal.returns-then-name_is-clause-found
returns-then-name_is-clause-found c =
    let number = c.of_number-node.ensures.same_number ∙ c.from.ensures in let arena = c.args.arena.now in let b = c.of_number-node.result in
    let member = found_member (nodes_in arena) c.args.self.now c.args.directory.now c.requires.ordered c.args.name.now _
    (λ k. trees.nodes (c.deref.ensures.value k) (c.of-order.ensures k))
    c.first_from.result c.first_from.ensures b (c.in_ok-found.was ∙ ap Some (sym number)) in
    record {
      node = member.node;
      there = member.there;
      named = ap node_name (sym (node_octets arena b member.node c.bytes.result.now c.bytes.ensures.octets)) ∙ c.name_is.ensures.0 c.if-name_is.true;
    }

pub returns-else-name_is-clause-none : goal.returns-else-name_is-clause-none
returns-else-name_is-clause-none c =
    let number = c.of_number-node.ensures.same_number ∙ c.from.ensures in let arena = c.args.arena.now in let b = c.of_number-node.result in
    let some = c.in_ok-found.was ∙ ap Some (sym number) in
    let member = found_member (nodes_in arena) c.args.self.now c.args.directory.now c.requires.ordered c.args.name.now _
    (λ k. trees.nodes (c.deref.ensures.value k) (c.of-order.ensures k)) c.first_from.result c.first_from.ensures b some in
    other_entry (nodes_in arena) c.args.self.now c.args.directory.now c.requires.ordered c.args.name.now _
    (λ k. trees.nodes (c.deref.ensures.value k) (c.of-order.ensures k)) c.first_from.result c.first_from.ensures b some
    (λ same. both_ways _ c.if-name_is.false (c.name_is.ensures.1 (ap node_name (node_octets arena b member.node c.bytes.result.now c.bytes.ensures.octets)
    ∙ same)))
