use Rattle.std.proofs.Common.{◌≡◌, ◌+◌, List, ℕ, length, sym, ap, ◌∙◌, subst, arith}
use Rattle.std.specs.Prelude.{IfSome, slice_range}
use Rattle.cfdp_actions.specs.declared.kind.Kind.TheVariants as kind
use Rattle.cfdp_tree.specs.declared.contents.Contents.{Contents}
use Rattle.cfdp_tree.specs.code.NodeFields.{node_fields_of}
use Rattle.cfdp_tree.specs.code.Nodes.{nodes_in}
use Rattle.cfdp_tree.specs.code.Tree.{IsNode, path_of_node}
use Rattle.cfdp_tree.specs.code.Contents.{IsFilled, contents_in}
use Rattle.cfdp_tree.specs.code.Kept.{contents_of_fields}
use Rattle.cfdp_tree.specs.code.Ways.{HasWays}
use Rattle.cfdp_tree.proofs.OfRuns.ContentsLaws.{length-contents}
use Rattle.cfdp_tree.proofs.OfStore.SeenLaws.{seen_there, seen_file, file_ways, file_small}
use Rattle.cfdp_tree.proofs.tree_store.TreeStoreFilestore.read.Goals as goal

pub unwrap-node-requires : goal.unwrap-node-requires
unwrap-node-requires c = seen_there _ _ _ c.self.invariant.store _ c.self.view_is c.args.path.now c.find_path.result c.find_path.ensures.none c.requires.file

pub contents_of-file-requires : goal.contents_of-file-requires
contents_of-file-requires c =
    let arena = c.self.inside.arena in let block = c.bytes.result.now in let path = c.args.path.now in
    let node = subst (λ r. IfSome r (λ b. IsNode (nodes_in arena) b)) c.unwrap-node.ensures c.find_path.ensures.node in
    let way = subst (λ r. IfSome r (λ b. path_of_node (nodes_in arena) b ≡ path)) c.unwrap-node.ensures c.find_path.ensures.path in
    let file = seen_file _ _ _ c.self.invariant.store _ c.self.view_is c.unwrap-node.result path block node way c.bytes.ensures.octets c.requires.file in
    let small = file_small _ _ _ c.self.invariant.store _ c.self.view_is path in
    omega (arith, length-contents arena (contents_of_fields kind.File (node_fields_of block)) file.1, ap (λ (xs : List ℕ). length xs) file.0, small)

-- the file's octets, by the contents that were read from its block
pub overflow_cast-at : goal.overflow_cast-at
overflow_cast-at c = omega (arith, c.requires.range, file_small _ _ _ c.self.invariant.store _ c.self.view_is c.args.path.now)

pub get-requires-clause-filled : goal.get-requires-clause-filled
get-requires-clause-filled c =
    let arena = c.self.inside.arena in let block = c.bytes.result.now in let path = c.args.path.now in
    let node = subst (λ r. IfSome r (λ b. IsNode (nodes_in arena) b)) c.unwrap-node.ensures c.find_path.ensures.node in
    let way = subst (λ r. IfSome r (λ b. path_of_node (nodes_in arena) b ≡ path)) c.unwrap-node.ensures c.find_path.ensures.path in
    let file = seen_file _ _ _ c.self.invariant.store _ c.self.view_is c.unwrap-node.result path block node way c.bytes.ensures.octets c.requires.file in
    subst (IsFilled arena) (sym c.contents_of-file.ensures) file.1

pub get-requires-clause-ways : goal.get-requires-clause-ways
get-requires-clause-ways c =
    let arena = c.self.inside.arena in let block = c.bytes.result.now in let path = c.args.path.now in
    let node = subst (λ r. IfSome r (λ b. IsNode (nodes_in arena) b)) c.unwrap-node.ensures c.find_path.ensures.node in
    let way = subst (λ r. IfSome r (λ b. path_of_node (nodes_in arena) b ≡ path)) c.unwrap-node.ensures c.find_path.ensures.path in
    let has = file_ways _ _ _ c.self.invariant.store _ c.self.view_is c.unwrap-node.result path block node way c.bytes.ensures.octets c.requires.file in
    subst (λ ws. HasWays arena ws c.contents_of-file.result.run) (sym c.deref-2.ensures.value)
    (subst (λ (x : Contents). HasWays arena c.self.inside.ways.items x.run) (sym c.contents_of-file.ensures) has)

pub get-requires-clause-range : goal.get-requires-clause-range
get-requires-clause-range c =
    let arena = c.self.inside.arena in let block = c.bytes.result.now in let path = c.args.path.now in
    let node = subst (λ r. IfSome r (λ b. IsNode (nodes_in arena) b)) c.unwrap-node.ensures c.find_path.ensures.node in
    let way = subst (λ r. IfSome r (λ b. path_of_node (nodes_in arena) b ≡ path)) c.unwrap-node.ensures c.find_path.ensures.path in
    let file = seen_file _ _ _ c.self.invariant.store _ c.self.view_is c.unwrap-node.result path block node way c.bytes.ensures.octets c.requires.file in
    let contents = contents_of_fields kind.File (node_fields_of block) in
    let size = ap (λ (x : Contents). x.size) c.contents_of-file.ensures in
    omega (arith, length-contents arena contents file.1, ap (λ (xs : List ℕ). length xs) file.0, c.requires.range, size)

pub returns : goal.returns
returns c =
    let arena = c.self.inside.arena in let block = c.bytes.result.now in let path = c.args.path.now in
    let node = subst (λ r. IfSome r (λ b. IsNode (nodes_in arena) b)) c.unwrap-node.ensures c.find_path.ensures.node in
    let way = subst (λ r. IfSome r (λ b. path_of_node (nodes_in arena) b ≡ path)) c.unwrap-node.ensures c.find_path.ensures.path in
    let file = seen_file _ _ _ c.self.invariant.store _ c.self.view_is c.unwrap-node.result path block node way c.bytes.ensures.octets c.requires.file in
    c.get.ensures.octets
    ∙ ap (λ (x : Contents). slice_range (contents_in arena x) c.args.at (c.args.at + length c.args.buffer.now)) c.contents_of-file.ensures
    ∙ ap (λ (xs : List ℕ). slice_range xs c.args.at (c.args.at + length c.args.buffer.now)) (sym file.0)
