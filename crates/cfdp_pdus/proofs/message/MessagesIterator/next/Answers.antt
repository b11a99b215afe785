use Rattle.std.proofs.Common.{sym, ◌∙◌}
use Rattle.cfdp_pdus.proofs.Splits.{fewer}
use Rattle.cfdp_pdus.proofs.message.MessagesIterator.next.Goals as goal

pub returns-clause-steps : goal.returns-clause-steps
returns-clause-steps c = sym c.self.view_is ∙ c.in_ok-first.ensures.some

pub returns-clause-goes : goal.returns-clause-goes
returns-clause-goes c = record { on = λ _. (tt, tt, fewer _ _ _ (returns-clause-steps c)); keeps = tt; rests = λ _. tt }
