use Rattle.std.proofs.Common.{arith, sym, ap, ◌∙◌, take, not, ◌-◌}
use Rattle.cfdp_actions.specs.Filestore.{is_directory}
use Rattle.cfdp_actions.specs.Store.{is_file_kind}
use Rattle.cfdp_tree.specs.code.NodeFields.{node_fields_of, kind_of_octet}
use Rattle.cfdp_tree.specs.code.Kept.{file_of}
use Rattle.cfdp_tree.proofs.OfStore.SeenLaws.{seen_block, seen_none, seen_parent, node_is_directory}
use Rattle.cfdp_tree.proofs.tree_store.TreeStoreFilestore.parent_is_good.Goals as goal

pub returns-in-Some : goal.returns-in-Some
returns-in-Some c =
    let arena = c.self.inside.arena in let block = c.bytes.result.now in let path = c.args.path.now in let depth = c.depth-depth.result - 1 in
    let there = seen_block _ _ _ c.self.invariant.store _ c.self.view_is c.in-Some.node
    (take depth path) block c.in-Some.ensures.node c.in-Some.ensures.path c.bytes.ensures.octets in
    ap not (c.is_file.ensures ∙ ap is_file_kind c.kind_of.ensures)
    ∙ sym (node_is_directory arena (kind_of_octet (node_fields_of block).kind) (file_of block))
    ∙ sym (ap is_directory there)
    ∙ sym (seen_parent c.args.self.now.filestore path depth (omega (arith, c.depth-depth.ensures.depth)) (omega arith))

pub returns-in-None : goal.returns-in-None
returns-in-None c =
    let path = c.args.path.now in let depth = c.depth-depth.result - 1 in
    sym (ap is_directory (seen_none _ _ _ c.self.invariant.store _ c.self.view_is (take depth path) c.in-None.ensures.none))
    ∙ sym (seen_parent c.args.self.now.filestore path depth (omega (arith, c.depth-depth.ensures.depth)) (omega arith))
