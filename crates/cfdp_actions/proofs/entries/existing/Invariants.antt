use Rattle.std.proofs.Common.{◌≡◌, ◌++◌, map, drop}
use Rattle.cfdp_actions.specs.Store.{existing_node}
use Rattle.cfdp_actions.specs.code.Listed.{shown_entries}
use Rattle.cfdp_actions.proofs.entries.existing.Given as goal

abbrev pub invariant-loop-path : goal.invariant-loop-path
invariant-loop-path l = l.all.items ++ map existing_node (shown_entries (drop l.path-index l.entries)) ≡ map existing_node (shown_entries l.entries)
