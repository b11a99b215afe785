use Rattle.std.proofs.Common.{Some, ap, ◌∙◌, ◌+◌}
use Rattle.cfdp_arena.specs.Arena.{free_count}
use Rattle.cfdp_arena.specs.Blocks.{blank_block}
use Rattle.cfdp_arena.proofs.Laws.{free_count-taken}
use Rattle.cfdp_tree.specs.code.Block.{BlockHeader}
use Rattle.cfdp_tree.specs.code.Nodes.{only_node, nodes_in}
use Rattle.cfdp_tree.proofs.OfNodes.NodeLaws.{kind_only, nodes-kept}
use Rattle.cfdp_tree.proofs.OfRuns.GrowLaws.{taken_written}
use Rattle.cfdp_tree.proofs.runs.begin.Goals as goal

pub returns-clause-taken : goal.returns-clause-taken
returns-clause-taken c =
    let a = c.args.arena.now in let t = c.take_block-block in
    ap (λ x. free_count x + 1) (taken_written a t.new.arena t.result blank_block c.set_tag.new.block t.ensures.zeros)
    ∙ free_count-taken a t.result c.set_tag.new.block t.ensures.within t.ensures.was_free

pub returns-clause-nodes : goal.returns-clause-nodes
returns-clause-nodes c =
    let a = c.args.arena.now in let t = c.take_block-block in let fresh = c.set_tag.new.block in
    ap nodes_in (taken_written a t.new.arena t.result blank_block fresh t.ensures.zeros)
    ∙ nodes-kept a t.result (Some fresh) (kind_only fresh (ap (λ (h : BlockHeader). h.kind) c.set_tag.ensures.header)) (ap only_node t.ensures.was_free)
