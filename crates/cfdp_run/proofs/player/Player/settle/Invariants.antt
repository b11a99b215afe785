use Rattle.std.proofs.Common.{◌-◌}
use Rattle.cfdp_transactions.specs.MostSettled.{most_settled}
use Rattle.cfdp_run.specs.Playing.{settling}
use Rattle.cfdp_run.proofs.Loops.{Left}
use Rattle.cfdp_run.proofs.player.Player.settle.Given as goal

abbrev pub invariant-inputs : goal.invariant-inputs
invariant-inputs l =
    Left l.self.receiver.state (settling (most_settled - l.counter) l.now l.self.receiver.state) l.initial.self.receiver.state
    (settling most_settled l.now l.initial.self.receiver.state) l.initial.text.items l.text.items
