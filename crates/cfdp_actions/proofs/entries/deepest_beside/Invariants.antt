use Rattle.std.proofs.Common.{◌≡◌, ◌≤◌, max, drop}
use Rattle.std.specs.FinMap.Entries.{where_key}
use Rattle.cfdp_paths.specs.Paths.{path_cmp}
use Rattle.cfdp_actions.specs.Filestore.{deepest_of, is_beside}
use Rattle.cfdp_actions.specs.code.Listed.{shown_entries}
use Rattle.cfdp_actions.proofs.entries.deepest_beside.Given as goal

abbrev pub invariant-loop-entry : goal.invariant-loop-entry
invariant-loop-entry l =
    (max l.deepest (deepest_of (where_key path_cmp (is_beside l.others l.path) (shown_entries (drop l.entry-index l.entries))))
    ≡ deepest_of (where_key path_cmp (is_beside l.others l.path) (shown_entries l.entries)))
    × (l.deepest ≤ 8)
