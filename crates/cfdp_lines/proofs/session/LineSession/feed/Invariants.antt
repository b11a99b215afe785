use Rattle.std.proofs.Common.{◌≡◌, ◌≤◌, ◌+◌, length}
use Rattle.cfdp_lines.specs.code.SessionReading.{session_reading}
use Rattle.cfdp_lines.proofs.Feeding.{Fed}
use Rattle.cfdp_lines.proofs.session.LineSession.feed.Given as goal

abbrev pub invariant-lines : goal.invariant-lines
invariant-lines g l =
    Fed g.S.Script.State g.S.Script.answer
    (session_reading g.S.Script.state l.initial.self)
    (session_reading g.S.Script.state l.self)
    l.octets l.rest l.self.text.items
    (g.W.ScriptOut.contents l.initial.writer)
    (g.W.ScriptOut.contents l.writer)
    × (l.self.number + length l.rest ≤ l.initial.self.number + length l.octets)
    × (g.W.ScriptOut.failed l.writer ≡ g.W.ScriptOut.failed l.initial.writer)

abbrev pub decreases-lines : goal.decreases-lines
decreases-lines g l = length l.rest
