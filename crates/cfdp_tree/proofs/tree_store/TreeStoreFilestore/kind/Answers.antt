use Rattle.std.proofs.Common.{Some, sym, ap, ◌∙◌}
use Rattle.cfdp_actions.specs.Store.{kind_in}
use Rattle.cfdp_tree.specs.code.NodeFields.{node_fields_of, kind_of_octet}
use Rattle.cfdp_tree.specs.code.Kept.{file_of}
use Rattle.cfdp_tree.proofs.OfStore.SeenLaws.{seen_block, seen_none, node_kind}
use Rattle.cfdp_tree.proofs.tree_store.TreeStoreFilestore.kind.Goals as goal

pub returns-in_err-node : goal.returns-in_err-node
returns-in_err-node c = c.from_residual.ensures ∙ sym (ap kind_in (seen_none _ _ _ c.self.invariant.store _ c.self.view_is c.args.path.now
    c.in_err-node.ensures.none))

pub returns : goal.returns
returns c =
    let arena = c.self.inside.arena in let block = c.bytes.result.now in
    let there = seen_block _ _ _ c.self.invariant.store _ c.self.view_is c.in_ok-node.node c.args.path.now block c.in_ok-node.ensures.node
    c.in_ok-node.ensures.path c.bytes.ensures.octets in
    ap Some (c.kind_of.ensures ∙ sym (node_kind arena (kind_of_octet (node_fields_of block).kind) (file_of block))) ∙ sym (ap kind_in there)
