use Rattle.std.proofs.Common.{◌≡◌, ◌<◌, ℕ, Bool, true, false, not, sym, ap, ◌∙◌, inl, inr, arith}
use Rattle.std.proofs.lemmas.Bool.{cases_eq, false≢true}
use Rattle.std.specs.Prelude.{◌↔◌, IsTrue}
use Rattle.cfdp_order.specs.declared.links.Order.{Order}
use Rattle.cfdp_tree.specs.code.Nodes.{nodes_in}
use Rattle.cfdp_tree.proofs.OfStore.SeenLaws.{shows}
use Rattle.cfdp_tree.proofs.OfNodes.BelowLaws.{order_some, order_none, absent_none}
use Rattle.cfdp_tree.proofs.tree_store.TreeStoreFilestore.has_entries.Goals as goal

-- a test whether there is nothing
described : (empty : Bool) (h k : ℕ) (some : Bool) → IsTrue empty ↔ (h ≡ 0) → h ≡ k → (0 < k → some ≡ true) → (k ≡ 0 → some ≡ false) → not empty ≡ some
described true h k some test same filled none = sym (none (sym same ∙ test.0 (λ i. true)))
described false h k some test same filled none = elim (cases_eq h 0) [
  | inl e ↦ absurd (false≢true (test.1 e))
  | inr other ↦ sym (filled (omega (arith, other, same)))
]

pub returns-in-Some : goal.returns-in-Some
returns-in-Some c =
    let arena = c.self.inside.arena in let nodes = nodes_in arena in let b = c.in-Some.node in let orders = c.self.inside.orders in let tree =
    c.self.invariant.store.kept.tree in
    let seen = shows _ _ _ c.self.invariant.store _ c.self.view_is in let found = c.in-Some.ensures in
    described c.is_empty.result c.of.result.height _ _ c.is_empty.ensures (ap (λ (o : Order). o.height) c.of.ensures)
    (order_some nodes tree arena c.args.self.now.filestore seen b c.args.path.now found.node found.path orders c.self.invariant.ordered)
    (order_none nodes tree arena c.args.self.now.filestore seen b c.args.path.now found.node found.path orders c.self.invariant.ordered)

pub returns-in-None : goal.returns-in-None
returns-in-None c =
    let arena = c.self.inside.arena in let seen = shows _ _ _ c.self.invariant.store _ c.self.view_is in
    sym (absent_none (nodes_in arena) c.self.invariant.store.kept.tree arena c.args.self.now.filestore seen c.args.path.now c.in-None.ensures.some
    c.in-None.ensures.none)
