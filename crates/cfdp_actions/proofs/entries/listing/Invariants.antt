use Rattle.std.proofs.Common.{◌≡◌, ◌++◌, map, drop}
use Rattle.cfdp_actions.specs.Store.{listing_entry}
use Rattle.cfdp_actions.specs.code.Listed.{shown_entries}
use Rattle.cfdp_actions.proofs.entries.listing.Given as goal

abbrev pub invariant-loop-path : goal.invariant-loop-path
invariant-loop-path l = l.all.items ++ map listing_entry (shown_entries (drop l.path-index l.entries)) ≡ map listing_entry (shown_entries l.entries)
