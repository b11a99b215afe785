use Rattle.std.proofs.Common.{◌≡◌, ◌≢◌, ◌+◌, Some, None, length, sym, ap, ◌∙◌, subst}
use Rattle.std.specs.Prelude.{◌==◌, if◌then◌else◌, IfSome}
use Rattle.cfdp_arena.specs.Arena.{octets_at, octets_of, free_count, with_block}
use Rattle.cfdp_arena.specs.Blocks.{blank_block}
use Rattle.cfdp_arena.proofs.Laws.{free_count-taken}
use Rattle.cfdp_tree.specs.code.Block.{BlockHeader}
use Rattle.cfdp_tree.specs.code.NodeFields.{NodeFields, node_fields_of, node_name, plain_fields}
use Rattle.cfdp_tree.specs.code.Nodes.{nodes_in}
use Rattle.cfdp_tree.specs.code.Runs.{RunsStay}
use Rattle.cfdp_tree.specs.code.Tree.{IsNode}
use Rattle.cfdp_tree.proofs.OfRuns.GrowLaws.{taken_written}
use Rattle.cfdp_tree.proofs.OfNodes.TreeLaws.{node_live}
use Rattle.cfdp_tree.proofs.OfRuns.SpareLaws.{runs_stay_taken}
use Rattle.cfdp_tree.proofs.OfNodes.WriteLaws.{created_octets, created_nodes, home_written}
use Rattle.cfdp_tree.proofs.nodes.create_node.Goals as goal
use Rattle.cfdp_arena.proofs.Chains.{no_live}

pub returns-clause-nodes : goal.returns-clause-nodes
returns-clause-nodes c =
    let a = c.args.arena.now in let t = c.take_block-node in let b = t.result in let new = c.write_node.new.block in
    subst (λ later. nodes_in later ≡ with_block (nodes_in a) b (octets_of (nodes_in later) b))
    (sym (taken_written a t.new.arena b blank_block new t.ensures.zeros))
    (created_nodes a b new t.ensures.within (ap (λ (h : BlockHeader). h.kind) c.write_node.ensures.header))

pub returns-clause-fields : goal.returns-clause-fields
returns-clause-fields c =
    let a = c.args.arena.now in let t = c.take_block-node in let b = t.result in let new = c.write_node.new.block in
    ap (λ later. node_fields_of (octets_of (nodes_in later) b)) (taken_written a t.new.arena b blank_block new t.ensures.zeros)
    ∙ ap node_fields_of (created_octets a b new t.ensures.within (ap (λ (h : BlockHeader). h.kind) c.write_node.ensures.header))
    ∙ c.write_node.ensures.fields
    ∙ ap (λ parent. plain_fields parent c.args.kind c.args.name.now) c.unwrap_or-parent.ensures

pub returns-clause-home : goal.returns-clause-home
returns-clause-home c =
    let a = c.args.arena.now in let t = c.take_block-node in let b = t.result in let directory = c.args.directory in
    let apart : directory ≢ Some b =
    (λ e. no_live (octets_at a b) t.ensures.was_free (node_live a b (subst (λ d. IfSome d (λ n. IsNode (nodes_in a) n)) e c.requires.directory))) in
    ap (λ (r : NodeFields). if r.parent == b then None else Some r.parent) (returns-clause-fields c) ∙ home_written directory b apart

pub returns-clause-name : goal.returns-clause-name
returns-clause-name c =
    let a = c.args.arena.now in let t = c.take_block-node in let b = t.result in let new = c.write_node.new.block in
    ap (λ later. node_name (octets_of (nodes_in later) b)) (taken_written a t.new.arena b blank_block new t.ensures.zeros)
    ∙ ap node_name (created_octets a b new t.ensures.within (ap (λ (h : BlockHeader). h.kind) c.write_node.ensures.header))
    ∙ c.write_node.ensures.name

pub returns-clause-whole : goal.returns-clause-whole
returns-clause-whole c =
    let a = c.args.arena.now in let t = c.take_block-node in let b = t.result in let new = c.write_node.new.block in
    ap (λ later. length (octets_of (nodes_in later) b)) (taken_written a t.new.arena b blank_block new t.ensures.zeros)
    ∙ ap length (created_octets a b new t.ensures.within (ap (λ (h : BlockHeader). h.kind) c.write_node.ensures.header))
    ∙ c.write_node.ensures.whole

pub returns-clause-runs : goal.returns-clause-runs
returns-clause-runs c =
    let a = c.args.arena.now in let t = c.take_block-node in let b = t.result in let new = c.write_node.new.block in
    subst (RunsStay a) (sym (taken_written a t.new.arena b blank_block new t.ensures.zeros)) (runs_stay_taken a b new t.ensures.was_free)

pub returns-clause-taken : goal.returns-clause-taken
returns-clause-taken c =
    let a = c.args.arena.now in let t = c.take_block-node in let b = t.result in let new = c.write_node.new.block in
    ap (λ later. free_count later + 1) (taken_written a t.new.arena b blank_block new t.ensures.zeros)
    ∙ free_count-taken a b new t.ensures.within t.ensures.was_free
