use Rattle.std.proofs.Common.{◌≡◌, [], sym, ap, ◌∙◌, subst}
use Rattle.cfdp_actions.specs.declared.kind.Kind.TheVariants as kind
use Rattle.cfdp_actions.specs.declared.kind.Entry.{Entry}
use Rattle.cfdp_actions.specs.Store.{listing_entry}
use Rattle.cfdp_arena.specs.Arena.{octets_of}
use Rattle.cfdp_tree.specs.code.Nodes.{nodes_in}
use Rattle.cfdp_tree.specs.code.Contents.{IsFilled}
use Rattle.cfdp_tree.specs.code.Kept.{file_of, node_of}
use Rattle.cfdp_tree.proofs.OfNodes.TreeLaws.{node_octets}
use Rattle.cfdp_tree.proofs.OfWalks.ListingLaws.{entry_directory, entry_file, file_filled}
use Rattle.cfdp_tree.proofs.listing.found_at.Goals as goal

-- what is at the node, as an entry of some path
directory_stated : (c : goal.In-Directory) → record { path = []; kind = kind.Directory; size = 0; checksum = 0 }
    ≡ listing_entry ([], node_of c.args.arena.now (octets_of (nodes_in c.args.arena.now) c.args.node))
directory_stated c =
    let arena = c.args.arena.now in let block = c.bytes-block.result.now in
    let same = node_octets arena c.args.node c.requires.node block c.bytes-block.ensures.octets in
    entry_directory arena block [] c.in-Directory.ensures ∙ ap (λ o. listing_entry ([], node_of arena o)) same

file_stated : (c : goal.After-sum_of)
    → record { path = []; kind = kind.File; size = c.from.result; checksum = c.sum_of.result }
    ≡ listing_entry ([], node_of c.args.arena.now (octets_of (nodes_in c.args.arena.now) c.args.node))
file_stated c =
    let arena = c.args.arena.now in let block = c.bytes-block.result.now in
    let same = node_octets arena c.args.node c.requires.node block c.bytes-block.ensures.octets in
    let filled = subst (λ o. IsFilled arena (file_of o)) (sym same) c.requires.filled in
    (λ k. record {
      path = [];
      kind = kind.File;
      size = (c.from.ensures ∙ c.size_of.ensures) k;
      checksum = (c.sum_of.ensures ∙ (file_filled arena block [] filled c.in-File.ensures).summed) k;
    })
    ∙ entry_file arena block [] filled c.in-File.ensures
    ∙ ap (λ o. listing_entry ([], node_of arena o)) same

pub returns-in-Directory-clause-kind : goal.returns-in-Directory-clause-kind
returns-in-Directory-clause-kind c = ap (λ (e : Entry). e.kind) (directory_stated c)

pub returns-in-File-clause-kind : goal.returns-in-File-clause-kind
returns-in-File-clause-kind c = ap (λ (e : Entry). e.kind) (file_stated c)

pub returns-in-Directory-clause-size : goal.returns-in-Directory-clause-size
returns-in-Directory-clause-size c = ap (λ (e : Entry). e.size) (directory_stated c)

pub returns-in-File-clause-size : goal.returns-in-File-clause-size
returns-in-File-clause-size c = ap (λ (e : Entry). e.size) (file_stated c)

pub returns-in-Directory-clause-checksum : goal.returns-in-Directory-clause-checksum
returns-in-Directory-clause-checksum c = ap (λ (e : Entry). e.checksum) (directory_stated c)

pub returns-in-File-clause-checksum : goal.returns-in-File-clause-checksum
returns-in-File-clause-checksum c = ap (λ (e : Entry). e.checksum) (file_stated c)
