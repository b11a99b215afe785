use Rattle.std.proofs.Common.{sym, ap, ◌∙◌, subst}
use Rattle.cfdp_arena.specs.Arena.{free_count}
use Rattle.cfdp_arena.proofs.Laws.{free_count-given}
use Rattle.cfdp_tree.specs.code.Nodes.{nodes_in}
use Rattle.cfdp_tree.specs.code.Runs.{RunsStay}
use Rattle.cfdp_tree.proofs.OfNodes.TreeLaws.{node_live}
use Rattle.cfdp_tree.proofs.OfRuns.SpareLaws.{runs_stay_given}
use Rattle.cfdp_tree.proofs.OfNodes.WriteLaws.{deleted_noted}
use Rattle.cfdp_tree.proofs.nodes.delete_node.Goals as goal

pub returns-clause-nodes : goal.returns-clause-nodes
returns-clause-nodes c = ap nodes_in c.give.ensures.freed ∙ deleted_noted c.args.arena.now c.args.node

pub returns-clause-runs : goal.returns-clause-runs
returns-clause-runs c = subst (RunsStay c.args.arena.now) (sym c.give.ensures.freed) (runs_stay_given c.args.arena.now c.args.node c.requires.node)

pub returns-clause-freed : goal.returns-clause-freed
returns-clause-freed c =
    ap free_count c.give.ensures.freed ∙ free_count-given c.args.arena.now c.args.node (node_live c.args.arena.now c.args.node c.requires.node)
