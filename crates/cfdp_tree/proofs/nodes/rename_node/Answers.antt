use Rattle.std.proofs.Common.{Some, None, length, ap, ◌∙◌}
use Rattle.std.specs.Prelude.{◌==◌, if◌then◌else◌}
use Rattle.cfdp_tree.specs.code.NodeFields.{NodeFields, node_fields_of, node_name}
use Rattle.cfdp_tree.proofs.OfNodes.TreeLaws.{node_live, node_octets}
use Rattle.cfdp_tree.proofs.OfRuns.SpareLaws.{runs_stay}
use Rattle.cfdp_tree.proofs.OfNodes.WriteLaws.{written_octets, written_nodes, home_written}
use Rattle.cfdp_tree.proofs.nodes.rename_node.Goals as goal
use Rattle.cfdp_arena.proofs.Laws.{free_count-written}

pub returns-clause-nodes : goal.returns-clause-nodes
returns-clause-nodes c =
    written_nodes c.args.arena.now c.args.node c.bytes_mut-block.result.now c.set_name.new.block c.requires.node c.bytes_mut-block.ensures.octets
    (c.set_name.ensures.header ∙ c.set_parent.ensures.header)

pub returns-clause-fields : goal.returns-clause-fields
returns-clause-fields c =
    let arena = c.args.arena.now in let b = c.args.node in let shown = c.bytes_mut-block.result.now in let is = c.bytes_mut-block.ensures.octets in
    let name = c.args.name.now in
    ap node_fields_of (written_octets arena b shown c.set_name.new.block c.requires.node is (c.set_name.ensures.header ∙ c.set_parent.ensures.header))
    ∙ c.set_name.ensures.fields
    ∙ ap (λ (r : NodeFields). record r { name_length = length name }) c.set_parent.ensures.fields
    ∙ (λ k. record (node_fields_of (node_octets arena b c.requires.node shown is k)) { parent = c.unwrap_or-parent.ensures k; name_length = length name })

pub returns-clause-home : goal.returns-clause-home
returns-clause-home c =
    let b = c.args.node in
    ap (λ (r : NodeFields). if r.parent == b then None else Some r.parent) (returns-clause-fields c) ∙ home_written c.args.directory b c.requires.apart

pub returns-clause-name : goal.returns-clause-name
returns-clause-name c =
    ap node_name (written_octets c.args.arena.now c.args.node c.bytes_mut-block.result.now c.set_name.new.block c.requires.node
    c.bytes_mut-block.ensures.octets (c.set_name.ensures.header ∙ c.set_parent.ensures.header))
    ∙ c.set_name.ensures.name

pub returns-clause-whole : goal.returns-clause-whole
returns-clause-whole c =
    ap length (written_octets c.args.arena.now c.args.node c.bytes_mut-block.result.now c.set_name.new.block c.requires.node
    c.bytes_mut-block.ensures.octets (c.set_name.ensures.header ∙ c.set_parent.ensures.header))
    ∙ c.set_name.ensures.whole

pub returns-clause-runs : goal.returns-clause-runs
returns-clause-runs c = runs_stay c.args.arena.now c.args.node c.set_name.new.block c.requires.node

pub returns-clause-free : goal.returns-clause-free
returns-clause-free c =
    free_count-written c.args.arena.now c.args.node c.set_name.new.block (node_live c.args.arena.now c.args.node c.requires.node)
