use Rattle.std.proofs.Common.{◌≡◌, sym, ap, ◌∙◌, subst}
use Rattle.std.specs.Prelude.{IfSome}
use Rattle.cfdp_checksum.specs.Checksum.{checksum}
use Rattle.cfdp_tree.specs.code.Nodes.{nodes_in}
use Rattle.cfdp_tree.specs.code.Tree.{IsNode, path_of_node}
use Rattle.cfdp_tree.proofs.OfStore.SeenLaws.{seen_there, seen_file}
use Rattle.cfdp_tree.proofs.tree_store.TreeStoreFilestore.checksum.Goals as goal

pub unwrap-node-requires : goal.unwrap-node-requires
unwrap-node-requires c = seen_there _ _ _ c.self.invariant.store _ c.self.view_is c.args.path.now c.find_path.result c.find_path.ensures.none c.requires

pub returns : goal.returns
returns c =
    let arena = c.self.inside.arena in let block = c.bytes.result.now in let path = c.args.path.now in
    let node = subst (λ r. IfSome r (λ b. IsNode (nodes_in arena) b)) c.unwrap-node.ensures c.find_path.ensures.node in
    let way = subst (λ r. IfSome r (λ b. path_of_node (nodes_in arena) b ≡ path)) c.unwrap-node.ensures c.find_path.ensures.path in
    let file = seen_file _ _ _ c.self.invariant.store _ c.self.view_is c.unwrap-node.result path block node way c.bytes.ensures.octets c.requires in
    c.sum_of.ensures ∙ file.1.summed ∙ ap checksum (sym file.0)
