use Rattle.std.proofs.Common.{◌≡◌, length}
use Rattle.cfdp_streams.proofs.Streaming.{Writing}
use Rattle.cfdp_streams.proofs.output.write_all.Given as goal

abbrev pub invariant-writing : goal.invariant-writing
invariant-writing g l =
    Writing l.text l.rest (g.W.ScriptOut.contents l.initial.writer) (g.W.ScriptOut.contents l.writer)
    × (g.W.ScriptOut.failed l.writer ≡ g.W.ScriptOut.failed l.initial.writer)

abbrev pub decreases-writing : goal.decreases-writing
decreases-writing g l = length l.rest
