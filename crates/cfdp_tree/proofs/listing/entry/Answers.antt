use Rattle.cfdp_tree.proofs.listing.entry.Goals as goal

pub found_at-found-requires : goal.found_at-found-requires
found_at-found-requires c = record { node = c.requires.node; filled = c.requires.filled; small = c.requires.small }

pub returns : goal.returns
returns c = (λ k. record {
  path = c.args.path;
  kind = c.found_at-found.ensures.kind k;
  size = c.found_at-found.ensures.size k;
  checksum = c.found_at-found.ensures.checksum k;
})
