use Rattle.std.proofs.Common.{◌≡◌, ◌≤◌, max, drop}
use Rattle.cfdp_actions.specs.Filestore.{deepest_of}
use Rattle.cfdp_actions.specs.code.Listed.{shown_entries}
use Rattle.cfdp_actions.proofs.entries.deepest.Given as goal

abbrev pub invariant-loop-entry : goal.invariant-loop-entry
invariant-loop-entry l = (max l.deepest (deepest_of (shown_entries (drop l.entry-index l.entries))) ≡ deepest_of (shown_entries l.entries)) × (l.deepest ≤ 8)
