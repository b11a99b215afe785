use Rattle.std.proofs.Common.{sym, ◌∙◌, ap, ◌-◌, length}
use Rattle.std.specs.Option.{option_copied}
use Rattle.cfdp_states.specs.code.Sparse.{is_shown, paths_in}
use Rattle.cfdp_states.proofs.SparsePaths.{none_known, last_known}
use Rattle.cfdp_states.proofs.sparse_survey.known_depth.Goals as goal

pub returns-in-None-clause-known : goal.returns-in-None-clause-known
returns-in-None-clause-known c = none_known (λ x. is_shown (paths_in c.args.before.now) x) c.args.path.now

pub returns-in-Some-clause-known : goal.returns-in-Some-clause-known
returns-in-Some-clause-known c =
    last_known c.args.before.now (length c.args.before.now - 1) c.in-Some.last.now c.args.path.now c.common_depth.result
    (sym c.last.ensures.value ∙ ap option_copied c.in-Some.is) c.common_depth.ensures.shared
