use Rattle.std.proofs.Common.{◌≡◌, ◌++◌, ◌+◌, length, map}
use Rattle.cfdp_actions.specs.Actions.{Perform}
use Rattle.cfdp_verdicts.specs.Tables.{rows_text}
use Rattle.cfdp_verdicts.proofs.item_table.push_rows.Given as goal

abbrev pub invariant-rows : goal.invariant-rows
invariant-rows l =
    (l.number + length l.rest ≡ 1 + length l.requests)
    × (l.text.items ++ rows_text l.number l.before (map Perform l.rest) l.left ≡ l.initial.text.items
    ++ rows_text 1 l.fn.before (map Perform l.requests) l.costs)

abbrev pub decreases-rows : goal.decreases-rows
decreases-rows l = length l.rest
