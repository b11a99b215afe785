use Rattle.std.proofs.Common.{◌≡◌, ◌≤◌}
use Rattle.cfdp_tree.specs.code.Runs.{IsAt}
use Rattle.cfdp_tree.proofs.runs.Run.seek.Given as goal

abbrev pub invariant-loop-step : goal.invariant-loop-step
invariant-loop-step l = record { cursor : IsAt l.arena l.self l.cursor; reached : l.cursor.index ≡ l._step; within : l._step ≤ l.index }
