use Rattle.std.proofs.Common.{length, ap, ◌∙◌}
use Rattle.cfdp_tree.specs.code.NodeFields.{NodeFields, node_fields_of, octet_of_kind}
use Rattle.cfdp_tree.proofs.OfNodes.NodeFieldLaws.{fields-payload, blank_fields}
use Rattle.cfdp_tree.proofs.node_block.write_node.Goals as goal

pub returns-clause-fields : goal.returns-clause-fields
returns-clause-fields c =
    let name = c.args.name.now in
    let blank = fields-payload c.set_tag.new.block c.args.block.now c.set_tag.ensures.payload ∙ ap node_fields_of c.requires.blank ∙ blank_fields in
    let sound = c.set_parent.ensures.fields ∙ ap (λ (r : NodeFields). record r { parent = c.args.parent }) blank in
    let described = c.set_kind.ensures.fields ∙ ap (λ (r : NodeFields). record r { kind = octet_of_kind c.args.kind }) sound in
    c.set_name.ensures.fields ∙ ap (λ (r : NodeFields). record r { name_length = length name }) described
