use Rattle.std.proofs.Common.{◌-◌}
use Rattle.cfdp_run.specs.Playing.{most_timers, passing}
use Rattle.cfdp_run.proofs.Loops.{Left}
use Rattle.cfdp_run.proofs.player.Player.pass.Given as goal

abbrev pub invariant-timers : goal.invariant-timers
invariant-timers l =
    Left l.self.receiver.state (passing (most_timers - l.counter) l.now l.self.receiver.state) l.initial.self.receiver.state
    (passing most_timers l.now l.initial.self.receiver.state) l.initial.text.items l.text.items
