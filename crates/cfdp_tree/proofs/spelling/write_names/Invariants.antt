use Rattle.std.proofs.Common.{◌≡◌, ◌+◌, ◌*◌, ◌≤◌, ◌++◌, take, drop, length}
use Rattle.cfdp_tree.specs.code.Nodes.{nodes_in}
use Rattle.cfdp_tree.specs.code.Tree.{IsNode, path_of_node}
use Rattle.cfdp_tree.specs.code.Text.{separated_text}
use Rattle.cfdp_tree.proofs.spelling.write_names.Given as goal

abbrev pub invariant-loop-parent : goal.invariant-loop-parent
invariant-loop-parent l = record {
  node : IsNode (nodes_in l.arena) l.node;
  room : 97 * length (path_of_node (nodes_in l.arena) l.node) ≤ l.start;
  within : l.start ≤ length l.text;
  long : length l.text ≡ length l.fn.text;
  text : separated_text l.separator (path_of_node (nodes_in l.arena) l.node) ++ drop l.start l.text ≡ separated_text l.separator
      (path_of_node (nodes_in l.arena) l.fn.node);
  depth : l.depth + length (path_of_node (nodes_in l.arena) l.node) ≡ length (path_of_node (nodes_in l.arena) l.fn.node) + 1;
  before : take l.start l.text ≡ take l.start l.fn.text;
}

abbrev pub decreases-loop-parent : goal.decreases-loop-parent
decreases-loop-parent l = length (path_of_node (nodes_in l.arena) l.node)
