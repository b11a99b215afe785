use Rattle.std.proofs.Common.{◌≡◌, set, get_or, length, length-set, drop, take, ap, ◌∙◌, rules, arith}
use Rattle.cfdp_tree.specs.code.NodeFields.{node_fields_of}
use Rattle.cfdp_tree.proofs.OfRuns.BlockLaws.{octet-part}
use Rattle.cfdp_tree.proofs.OfNodes.NodeFieldLaws.{fields_same, name-put}
use Rattle.cfdp_tree.proofs.node_block.set_name.Goals as goal

pub returns-clause-fields : goal.returns-clause-fields
returns-clause-fields c =
    let block = c.args.block.now in let name = c.args.name.now in
    let counted = set block 19 (length name) in
    let whole : length counted ≡ 128 = length-set block 19 (length name) ∙ c.told-block in
    let described : node_fields_of counted ≡ record (node_fields_of block) { name_length = length name } = search rules in
    fields_same c.put_part.new.block counted (λ i within. ap (λ xs. get_or xs i 0) c.put_part.ensures
    ∙ octet-part counted 24 name whole i (omega arith) (omega arith))
    ∙ described

pub returns-clause-name : goal.returns-clause-name
returns-clause-name c =
    let block = c.args.block.now in let name = c.args.name.now in
    let counted = set block 19 (length name) in
    let whole : length counted ≡ 128 = length-set block 19 (length name) ∙ c.told-block in
    let fields = returns-clause-fields c in
    (λ k. take ((fields k).name_length) (drop 32 (c.put_part.ensures k))) ∙ name-put counted name whole
