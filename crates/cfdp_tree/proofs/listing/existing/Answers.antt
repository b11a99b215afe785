use Rattle.std.proofs.Common.{sym, ap, ◌∙◌, subst}
use Rattle.cfdp_actions.specs.declared.kind.Kind.TheVariants as kind
use Rattle.cfdp_actions.specs.Store.{existing_node}
use Rattle.cfdp_tree.specs.code.Contents.{IsFilled}
use Rattle.cfdp_tree.specs.code.Kept.{file_of, node_of}
use Rattle.cfdp_tree.proofs.OfNodes.TreeLaws.{node_octets}
use Rattle.cfdp_tree.proofs.OfWalks.ListingLaws.{existing_directory, existing_file}
use Rattle.cfdp_tree.proofs.listing.existing.Goals as goal

pub returns-in-Directory : goal.returns-in-Directory
returns-in-Directory c =
    let arena = c.args.arena.now in let block = c.bytes-block.result.now in
    let same = node_octets arena c.args.node c.requires.node block c.bytes-block.ensures.octets in
    existing_directory arena block c.args.path c.in-Directory.ensures ∙ ap (λ o. existing_node (c.args.path, node_of arena o)) same

pub returns-in-File : goal.returns-in-File
returns-in-File c =
    let arena = c.args.arena.now in let block = c.bytes-block.result.now in
    let same = node_octets arena c.args.node c.requires.node block c.bytes-block.ensures.octets in
    (λ k. record { path = c.args.path; kind = kind.File; size = (c.from.ensures ∙ c.size_of.ensures) k })
    ∙ existing_file arena block c.args.path (subst (λ o. IsFilled arena (file_of o)) (sym same) c.requires.filled) c.in-File.ensures
    ∙ ap (λ o. existing_node (c.args.path, node_of arena o)) same
