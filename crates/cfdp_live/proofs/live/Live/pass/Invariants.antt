use Rattle.std.proofs.Common.{◌-◌}
use Rattle.cfdp_run.specs.Playing.{most_timers, passing}
use Rattle.cfdp_live.proofs.Making.{LeftToMake}
use Rattle.cfdp_live.proofs.live.Live.pass.Given as goal

abbrev pub invariant-timers : goal.invariant-timers
invariant-timers l =
    LeftToMake l.self.receiver.state (passing (most_timers - l.counter) l.now l.self.receiver.state) l.initial.self.receiver.state
    (passing most_timers l.now l.initial.self.receiver.state) l.initial.output l.output
