use Rattle.std.proofs.Common.{◌≡◌, sym, subst}
use Rattle.std.specs.Bool.{Decides}
use Rattle.cfdp_transactions.proofs.EqualityLaws.{finished-Decides}
use Rattle.cfdp_transactions.proofs.equality.same_finished.Goals as goal

pub returns : goal.returns
returns c = subst (λ r. Decides r (c.args.finished.now ≡ c.args.other.now)) (sym c.eq.ensures) (finished-Decides c.args.finished.now c.args.other.now)
