use Rattle.std.proofs.Common.{◌≡◌, ◌++◌, map}
use Rattle.std.specs.Prelude.{All}
use Rattle.std.specs.Vec.Iter.{into_iter_items}
use Rattle.cfdp_actions.specs.Store.{existing_node}
use Rattle.cfdp_tree.specs.code.Nodes.{nodes_in}
use Rattle.cfdp_tree.specs.code.NodesBelow.{shown_node, IsSoundNode}
use Rattle.cfdp_tree.proofs.listing.existing_nodes.Given as goal

-- those shown so far, and those to show yet
abbrev pub invariant-loop-path : goal.invariant-loop-path
invariant-loop-path l = record {
  done : l.all.items ++ map (λ e. existing_node (shown_node l.arena (nodes_in l.arena) e)) (into_iter_items l.path-iterator)
      ≡ map (λ e. existing_node (shown_node l.arena (nodes_in l.arena) e)) l.fn.found.items;
  sound : All (IsSoundNode l.arena) (into_iter_items l.path-iterator);
}
