use Rattle.std.proofs.Common.{ap, sym, subst, map, ◌∙◌}
use Rattle.clap.specs.Words.{is_simple, is_simple_and_free, fault_of, subcommand_of, takes}
use Rattle.clap.proofs.TakesLemmas.{passed_up}
use Rattle.cfdp_command_line.specs.Words.{IsAsked}
use Rattle.cfdp_command_line.proofs.Program.{program_is_free, program_is_simple}
use Rattle.cfdp_command_line.proofs.words.parse_command.Goals as goal

pub returns-in_err-matches-clause-refused :
    goal.returns-in_err-matches-clause-refused
returns-in_err-matches-clause-refused g c =
    passed_up _ _ _ c.from_residual-in_err-matches.ensures.1
    (λ taken. c.in_err-matches.ensures.passes (ap (λ a. takes a (map g.S.AsStr.text c.args.words.now)) c.in_ok-program.ensures ∙ taken))

pub returns-clause-asked : goal.returns-clause-asked
returns-clause-asked g c =
    let found = c.in_ok-matches.ensures.matches (ap is_simple c.in_ok-program.ensures ∙ program_is_simple) in
    subst (λ named. IsAsked named c.in_ok-asked.asked)
    (found.1 ∙ ap (λ a. subcommand_of a (map g.S.AsStr.text c.args.words.now)) c.in_ok-program.ensures)
    c.in_ok-asked.ensures

pub returns-clause-taken : goal.returns-clause-taken
returns-clause-taken g c =
    ap (λ a. fault_of a (map g.S.AsStr.text c.args.words.now)) (sym c.in_ok-program.ensures)
    ∙ c.in_ok-matches.ensures.kinds (ap is_simple_and_free c.in_ok-program.ensures ∙ program_is_free)
