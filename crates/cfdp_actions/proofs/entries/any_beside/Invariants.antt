use Rattle.std.proofs.Common.{◌≡◌, drop}
use Rattle.std.specs.List.{list_any}
use Rattle.cfdp_actions.specs.Filestore.{is_beside}
use Rattle.cfdp_actions.specs.code.Listed.{shown_entries}
use Rattle.cfdp_actions.proofs.entries.any_beside.Given as goal

-- no entry that was passed is one
abbrev pub invariant-loop-entry : goal.invariant-loop-entry
invariant-loop-entry l =
    list_any (λ e. is_beside l.others l.path e.0) (shown_entries (drop l.entry-index l.entries))
    ≡ list_any (λ e. is_beside l.others l.path e.0) (shown_entries l.entries)
