use Rattle.std.proofs.Common.{◌≡◌, ◌≤◌, ◌+◌, []}
use Rattle.cfdp_lines.specs.Session.{line_reading}
use Rattle.cfdp_lines.specs.Lines.{input_limit}
use Rattle.cfdp_lines.proofs.Running.{Running}
use Rattle.cfdp_lines.proofs.whole_run.run.Given as goal

abbrev pub invariant-pieces : goal.invariant-pieces
invariant-pieces g l =
    Running g.S.Script.State g.S.Script.answer (g.S.Script.state l.fn.script)
    (line_reading l.session.number (g.S.Script.state l.session.script) l.session.line)
    l.left
    (g.R.ScriptIn.remaining l.initial.reader)
    (g.R.ScriptIn.remaining l.reader)
    (g.W.ScriptOut.contents l.initial.writer)
    (g.W.ScriptOut.contents l.writer)
    × (l.session.number + l.left ≤ input_limit + 1)
    × (g.R.ScriptIn.failed l.reader ≡ g.R.ScriptIn.failed l.initial.reader)
    × (g.W.ScriptOut.failed l.writer ≡ g.W.ScriptOut.failed l.initial.writer)
    × (l.session.text.items ≡ [])

abbrev pub decreases-pieces : goal.decreases-pieces
decreases-pieces g l = l.left
