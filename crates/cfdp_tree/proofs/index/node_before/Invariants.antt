use Rattle.std.proofs.Common.{◌≢◌, ◌+◌, ◌-◌, ◌<◌, ℕ}
use Rattle.std.specs.Prelude.{All, Contains}
use Rattle.cfdp_tree.specs.code.Nodes.{nodes_in}
use Rattle.cfdp_tree.specs.code.Tree.{IsNode}
use Rattle.cfdp_tree.specs.code.Index.{index_chain, list_of}
use Rattle.cfdp_tree.proofs.index.node_before.Given as goal

-- the nodes that are left begin with the one before the next one that is read
abbrev pub invariant-loop-step : goal.invariant-loop-step
invariant-loop-step l = record {
  nodes : All (IsNode (nodes_in l.arena)) (index_chain (nodes_in l.arena) (l._step-end + 1 - l._step) l.before);
  later : 0 < l._step-end + 1 - l._step → l.before ≢ l.node;
  left : Contains (list_of (nodes_in l.arena) l.head) l.node → Contains (index_chain (nodes_in l.arena) (l._step-end + 1 - l._step) l.before) l.node;
  following : (b : ℕ) → Contains (index_chain (nodes_in l.arena) (l._step-end - l._step) l.before) b
      → Contains (index_chain (nodes_in l.arena) (l.head.listed - 1) l.head.first) b;
}
