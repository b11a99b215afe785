use Rattle.std.specs.Prelude.{codes}
use Rattle.cfdp_verdicts.specs.Words.{rename_not_allowed, said_of_name}
use Rattle.cfdp_verdicts.proofs.causes.push_rename.Goals as goal
use Rattle.cfdp_status.proofs.Appended.{three}

pub returns : goal.returns
unfolding rename_not_allowed
returns c =
    three c.push_said-3.result c.args.text.now.items c.push_said.new.text.items c.push_said-2.new.text.items c.push_said-3.new.text.items
    (said_of_name c.args.second.now (codes " has no directory above it or more than 8 names, or is below ")) (said_of_name c.args.first.now (codes "; or "))
    (said_of_name c.args.first.now (codes " is protected, or above what is"))
    c.in_ok-push_said.ensures c.in_ok-push_said-2.ensures c.push_said-3.ensures
