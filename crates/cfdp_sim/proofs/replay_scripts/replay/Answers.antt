use Rattle.std.proofs.Common.{◌≡◌, rules, subst}
use Rattle.cfdp_lines.specs.Outcome.{BadRun}
use Rattle.cfdp_commands.specs.Replay.{ReplayStage, replay_answer, at_first}
use Rattle.cfdp_commands.specs.Scripts.{transfers_of}
use Rattle.cfdp_sim.proofs.replay_scripts.replay.Goals as goal

pub returns-clause-bad_line : goal.returns-clause-bad_line
returns-clause-bad_line g c = λ number e.
    let start : transfers_of c.new.result ≡ at_first = search rules in
    subst
    (λ (s : ReplayStage). BadRun replay_answer s number (g.R.ScriptIn.remaining c.args.reader.now)
    (g.R.ScriptIn.remaining c.run.new.reader) (g.W.ScriptOut.contents c.args.writer.now) (g.W.ScriptOut.contents c.run.new.writer))
    start (c.run.ensures.bad number e)
