use Rattle.std.proofs.Common.{◌≡◌, ◌∙◌, arith, rules, subst}
use Rattle.cfdp_lines.specs.Lines.{input_limit}
use Rattle.cfdp_lines.specs.Outcome.{BadRun}
use Rattle.cfdp_commands.specs.Plain.{PlainState, plain_answer, at_start}
use Rattle.cfdp_lines.proofs.Running.{PartRun-none}
use Rattle.cfdp_sim.proofs.plain_scripts.plain.Goals as goal

pub returns-in_default-clause-begun_memory : goal.returns-in_default-clause-begun_memory
returns-in_default-clause-begun_memory g c = λ _. PartRun-none PlainState plain_answer at_start input_limit _ _ (omega arith)

pub returns-clause-bad_line : goal.returns-clause-bad_line
returns-clause-bad_line g c = λ number e.
    let start : _ ≡ at_start = c.new-2.ensures ∙ search rules in
    subst
    (λ (s : PlainState). BadRun plain_answer s number (g.R.ScriptIn.remaining c.args.reader.now)
    (g.R.ScriptIn.remaining c.run.new.reader) (g.W.ScriptOut.contents c.args.writer.now) (g.W.ScriptOut.contents c.run.new.writer))
    start (c.run.ensures.bad number e)
