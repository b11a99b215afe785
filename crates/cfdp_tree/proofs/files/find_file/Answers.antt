use Rattle.std.proofs.Common.{◌≡◌, ◌≤◌, ap, sym, ◌∙◌, subst}
use Rattle.std.specs.Prelude.{IfSome}
use Rattle.cfdp_actions.specs.declared.kind.Kind.TheVariants as kind
use Rattle.cfdp_tree.specs.code.NodeFields.{node_fields_of}
use Rattle.cfdp_tree.specs.code.Nodes.{nodes_in}
use Rattle.cfdp_tree.specs.code.Tree.{IsNode, path_of_node}
use Rattle.cfdp_tree.specs.code.Kept.{contents_of_fields}
use Rattle.cfdp_tree.proofs.OfNodes.TreeLaws.{node_octets}
use Rattle.cfdp_tree.proofs.files.find_file.Goals as goal

pub contents_of-requires : goal.contents_of-requires
contents_of-requires c =
    let arena = c.args.arena.now in let b = c.unwrap-node.result in let path = c.args.path.now in let block = c.bytes.result.now in
    let node = subst (λ r. IfSome r (λ b. IsNode (nodes_in arena) b)) c.unwrap-node.ensures c.find_path.ensures.node in
    let way = subst (λ r. IfSome r (λ b. path_of_node (nodes_in arena) b ≡ path)) c.unwrap-node.ensures c.find_path.ensures.path in
    subst (λ xs. (node_fields_of xs).size ≤ 7864320) (sym (node_octets arena b node block c.bytes.ensures.octets)) (c.requires.most b node way)

pub returns-clause-contents : goal.returns-clause-contents
returns-clause-contents c =
    let arena = c.args.arena.now in let b = c.unwrap-node.result in let block = c.bytes.result.now in
    let node = subst (λ r. IfSome r (λ b. IsNode (nodes_in arena) b)) c.unwrap-node.ensures c.find_path.ensures.node in
    c.contents_of.ensures ∙ ap (λ xs. contents_of_fields kind.File (node_fields_of xs)) (node_octets arena b node block c.bytes.ensures.octets)
