use Rattle.std.proofs.Common.{◌≡◌, ◌-◌, length, map, drop}
use Rattle.std.specs.Prelude.{reverse}
use Rattle.cfdp_tree.specs.code.Nodes.{nodes_in}
use Rattle.cfdp_tree.specs.code.NodesBelow.{path_and_node}
use Rattle.cfdp_tree.proofs.nodes_below.with_paths.Given as goal

abbrev pub invariant-loop-made : goal.invariant-loop-made
invariant-loop-made l = l.found.items ≡ reverse (map (path_and_node (nodes_in l.arena)) (drop (length l.nodes - l.made) l.nodes))
