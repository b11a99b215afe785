use Rattle.std.proofs.Common.{◌≤◌, sym, ap, ◌∙◌, subst}
use Rattle.cfdp_arena.specs.Arena.{octets_at}
use Rattle.std.specs.Prelude.{◌≡◌, Some}
use Rattle.cfdp_paths.specs.code.Paths.{name_cmp}
use Rattle.cfdp_tree.specs.code.NodeFields.{node_fields_of, node_name}
use Rattle.cfdp_tree.proofs.OfNodes.TreeLaws.{node_octets}
use Rattle.cfdp_tree.proofs.orders.ByNameSought.compare.Goals as goal

pub name_in-requires-clause-fits : goal.name_in-requires-clause-fits
name_in-requires-clause-fits c =
    let arena = c.args.self.now.arena.now in
    let same = node_octets arena c.args.node c.requires.node c.bytes-block.result.now
    (subst (λ k. octets_at arena k ≡ Some c.bytes-block.result.now) (c.of_number.ensures.same_number ∙ c.from.ensures) c.bytes-block.ensures.octets) in
    subst (λ o. (node_fields_of o).name_length ≤ 96) (sym same) c.requires.named.fits

pub returns : goal.returns
returns c =
    let arena = c.args.self.now.arena.now in
    let same = node_octets arena c.args.node c.requires.node c.bytes-block.result.now
    (subst (λ k. octets_at arena k ≡ Some c.bytes-block.result.now) (c.of_number.ensures.same_number ∙ c.from.ensures) c.bytes-block.ensures.octets) in
    c.cmp.ensures ∙ ap (λ n. name_cmp n c.args.self.now.name.now) (c.name_in.ensures ∙ ap node_name same)
