use Rattle.std.proofs.Common.{◌∙◌, refl, codes}
use Rattle.clap.specs.Words.{found_of, rows_of}
use Rattle.clap.proofs.WalkLemmas.{first_value-rows}
use Rattle.cfdp_command_line.proofs.Asking.{asked_to_replay}
use Rattle.cfdp_command_line.proofs.words.asked_by.Goals as goal

pub returns-in-Some : goal.returns-in-Some
returns-in-Some c =
    asked_to_replay c.args.matches.now (rows_of (found_of c.in-Some.found.now)) c.get_str.result (c.in-Some.ensures.found.0 refl)
    c.in-Some.ensures.rows (c.get_str.ensures ∙ first_value-rows (found_of c.in-Some.found.now) (codes "FILE"))
