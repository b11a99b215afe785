use Rattle.std.proofs.Common.{◌≡◌, List, ℕ, length, sym, ap, ◌∙◌, subst, arith}
use Rattle.std.specs.Prelude.{IfSome}
use Rattle.cfdp_actions.specs.declared.kind.Kind.TheVariants as kind
use Rattle.cfdp_tree.specs.code.NodeFields.{node_fields_of}
use Rattle.cfdp_tree.specs.code.Nodes.{nodes_in}
use Rattle.cfdp_tree.specs.code.Tree.{IsNode, path_of_node}
use Rattle.cfdp_tree.specs.code.Kept.{contents_of_fields}
use Rattle.cfdp_tree.proofs.OfRuns.ContentsLaws.{length-contents}
use Rattle.cfdp_tree.proofs.OfStore.SeenLaws.{seen_there, seen_file, file_small}
use Rattle.cfdp_tree.proofs.tree_store.TreeStoreFilestore.size.Goals as goal

pub unwrap-node-requires : goal.unwrap-node-requires
unwrap-node-requires c = seen_there _ _ _ c.self.invariant.store _ c.self.view_is c.args.path.now c.find_path.result c.find_path.ensures.none c.requires

pub returns-clause-value : goal.returns-clause-value
returns-clause-value c =
    let arena = c.self.inside.arena in let block = c.bytes.result.now in let path = c.args.path.now in let contents = contents_of_fields kind.File
    (node_fields_of block) in
    let node = subst (λ r. IfSome r (λ b. IsNode (nodes_in arena) b)) c.unwrap-node.ensures c.find_path.ensures.node in
    let way = subst (λ r. IfSome r (λ b. path_of_node (nodes_in arena) b ≡ path)) c.unwrap-node.ensures c.find_path.ensures.path in
    let file = seen_file _ _ _ c.self.invariant.store _ c.self.view_is c.unwrap-node.result path block node way c.bytes.ensures.octets c.requires in
    c.from.ensures ∙ c.size_of.ensures ∙ sym (length-contents arena contents file.1) ∙ sym (ap (λ (xs : List ℕ). length xs) file.0)

pub returns-clause-within : goal.returns-clause-within
returns-clause-within c = omega (arith, returns-clause-value c, file_small _ _ _ c.self.invariant.store _ c.self.view_is c.args.path.now)
