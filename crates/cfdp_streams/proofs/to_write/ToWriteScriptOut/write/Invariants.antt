use Rattle.std.proofs.Common.{◌≡◌}
use Rattle.std.specs.Io.KnownBytes.{Keeps}
use Rattle.cfdp_streams.proofs.to_write.ToWriteScriptOut.write.Given as goal

abbrev pub invariant-tries : goal.invariant-tries
invariant-tries g l =
    Keeps (g.W.Write.contents l.initial.self.inner) (g.W.Write.contents l.self.inner)
    × (l.self.failed ≡ l.initial.self.failed)
