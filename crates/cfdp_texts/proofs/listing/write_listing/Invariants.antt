use Rattle.std.proofs.Common.{◌≡◌, ◌++◌, take, flat_map}
use Rattle.cfdp_texts.specs.Replies.{entry_line}
use Rattle.cfdp_texts.proofs.listing.write_listing.Given as goal

abbrev pub invariant-loop-entry : goal.invariant-loop-entry
invariant-loop-entry g l = l.text.items ≡ l.initial.text.items ++ flat_map entry_line (take l.entry-index l.entry-items)
