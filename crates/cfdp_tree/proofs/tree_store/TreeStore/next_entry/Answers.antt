use Rattle.std.proofs.Common.{sym, subst}
use Rattle.std.specs.Prelude.{IfNone}
use Rattle.cfdp_arena.specs.Arena.{octets_of}
use Rattle.cfdp_tree.specs.code.Nodes.{nodes_in}
use Rattle.cfdp_tree.specs.code.Tree.{path_of_node}
use Rattle.cfdp_tree.specs.code.Kept.{node_of}
use Rattle.cfdp_tree.specs.Next.{IsLast}
use Rattle.cfdp_tree.proofs.OfStore.SeenLaws.{shows}
use Rattle.cfdp_tree.proofs.OfStore.SoundLaws.{node_sound}
use Rattle.cfdp_tree.proofs.OfNodes.TextLaws.{path_good}
use Rattle.cfdp_tree.proofs.OfOrders.NextLaws.{first_next, none_last}
use Rattle.cfdp_tree.proofs.tree_store.TreeStore.next_entry.Goals as goal

pub returns-in_err-node-clause-none : goal.returns-in_err-node-clause-none
returns-in_err-node-clause-none c =
    let arena = c.self.inside.arena in let F = c.args.self.now.filestore in
    subst (λ r. IfNone r (IsLast F c.args.after)) (sym c.from_residual.ensures)
    (none_last arena (nodes_in arena) F (shows _ _ _ c.self.invariant.store _ c.self.view_is) c.args.after c.in_err-node.ensures.none)

pub found_at-found-requires : goal.found_at-found-requires
found_at-found-requires c =
    let sound = node_sound _ _ _ c.self.invariant.store _ c.self.view_is c.in_ok-node.node c.in_ok-node.ensures.first.follows.node in
    record { node = sound.node; filled = sound.filled; small = sound.small }

pub returns-clause-next : goal.returns-clause-next
returns-clause-next c =
    let arena = c.self.inside.arena in let nodes = nodes_in arena in let b = c.in_ok-node.node in let F = c.args.self.now.filestore in
    let first = c.in_ok-node.ensures.first in
    let shown = shows _ _ _ c.self.invariant.store _ c.self.view_is in
    let good = path_good nodes c.self.invariant.store.kept.tree b first.follows.node in
    record {
      path = path_of_node nodes b;
      node = node_of arena (octets_of nodes b);
      there = shown.each b first.follows.node;
      is_next = first_next arena nodes F shown c.args.after b first;
      good = good;
      spelled = c.write_path-start.ensures.text;
      kind = c.found_at-found.ensures.kind;
      size = c.found_at-found.ensures.size;
      checksum = c.found_at-found.ensures.checksum;
    }
