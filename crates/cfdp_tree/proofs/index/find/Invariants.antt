use Rattle.std.proofs.Common.{◌-◌, ℕ}
use Rattle.std.specs.Prelude.{All, Contains}
use Rattle.cfdp_tree.specs.code.Nodes.{nodes_in}
use Rattle.cfdp_tree.specs.code.Tree.{IsNode, IsEntry}
use Rattle.cfdp_tree.specs.code.Index.{index_chain, list_of}
use Rattle.cfdp_tree.proofs.index.find.Given as goal

abbrev pub invariant-loop-step : goal.invariant-loop-step
invariant-loop-step l = record {
  own : All (IsNode (nodes_in l.arena)) (index_chain (nodes_in l.arena) (l._step-end - l._step) l.node);
  left : (b : ℕ) → IsEntry (nodes_in l.arena) l.directory l.name b → Contains (list_of (nodes_in l.arena) l.head) b
      → Contains (index_chain (nodes_in l.arena) (l._step-end - l._step) l.node) b;
}
