use Rattle.std.proofs.Common.{rules, ◌≡◌, true, map, ap, ◌∙◌}
use Rattle.clap.specs.Words.{takes}
use Rattle.cfdp_command_line.specs.Words.{program}
use Rattle.cfdp_command_line.proofs.Program.{plain_is_taken, replay_is_taken}
use Rattle.cfdp_command_line.proofs.words.parse.Goals as goal

pub returns-clause-plain : goal.returns-clause-plain
returns-clause-plain g c = λ name e same.
    let taken : takes program (map g.S.AsStr.text c.args.words.now) ≡ true = ap (takes program) e ∙ plain_is_taken name in
    let memory = c.in-Err.ensures.refused taken in
    search rules

pub returns-clause-replay : goal.returns-clause-replay
returns-clause-replay g c = λ name e same.
    let taken : takes program (map g.S.AsStr.text c.args.words.now) ≡ true = ap (takes program) e ∙ replay_is_taken name in
    let memory = c.in-Err.ensures.refused taken in
    search rules
