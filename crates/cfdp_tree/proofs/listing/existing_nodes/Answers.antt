use Rattle.std.proofs.Common.{rules, ◌≡◌, [], ◌∷◌, ◌++◌, map, sym, ap, ◌∙◌, subst}
use Rattle.std.proofs.lemmas.List.{append_assoc}
use Rattle.std.proofs.lemmas.List.Elements.{All-head, All-tail}
use Rattle.std.specs.Prelude.{All}
use Rattle.std.specs.Vec.Iter.{into_iter_items}
use Rattle.cfdp_actions.specs.Store.{existing_node}
use Rattle.cfdp_tree.specs.code.Nodes.{nodes_in}
use Rattle.cfdp_tree.specs.code.NodesBelow.{shown_node, IsSoundNode}
use Rattle.cfdp_tree.proofs.listing.existing_nodes.Goals as goal

pub existing-requires : goal.existing-requires
existing-requires c =
    let arena = c.args.arena.now in let rest = into_iter_items c.next.new.self in let l = c.loop-path in
    let items : into_iter_items l.path-iterator ≡ (c.in-Some.path, c.in-Some.node) ∷ rest = search rules in
    All-head (IsSoundNode arena) (c.in-Some.path, c.in-Some.node) rest (subst (All (IsSoundNode arena)) items l.invariant.sound)

pub loop-path-preserved : goal.loop-path-preserved
loop-path-preserved c =
    let arena = c.args.arena.now in let rest = into_iter_items c.next.new.self in let l = c.loop-path in
    let items : into_iter_items l.path-iterator ≡ (c.in-Some.path, c.in-Some.node) ∷ rest = search rules in
    record {
      done = ap (λ xs. xs ++ map (λ e. existing_node (shown_node arena (nodes_in arena) e)) rest) (c.in_ok-push.ensures.items
          ∙ ap (λ x. l.all.items ++ x ∷ []) c.existing.ensures)
          ∙ append_assoc l.all.items (existing_node (shown_node arena (nodes_in arena) (c.in-Some.path, c.in-Some.node)) ∷ [])
          (map (λ e. existing_node (shown_node arena (nodes_in arena) e)) rest)
          ∙ ap (λ xs. l.all.items ++ map (λ e. existing_node (shown_node arena (nodes_in arena) e)) xs) (sym items)
          ∙ l.invariant.done;
      sound = All-tail (IsSoundNode arena) (c.in-Some.path, c.in-Some.node) rest (subst (All (IsSoundNode arena)) items l.invariant.sound);
    }
