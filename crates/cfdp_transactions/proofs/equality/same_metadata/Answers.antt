use Rattle.std.proofs.Common.{◌≡◌, sym, subst}
use Rattle.std.specs.Bool.{Decides}
use Rattle.cfdp_transactions.proofs.EqualityLaws.{metadata-Decides}
use Rattle.cfdp_transactions.proofs.equality.same_metadata.Goals as goal

pub returns : goal.returns
returns c = subst (λ r. Decides r (c.args.metadata.now ≡ c.args.other.now)) (sym c.eq.ensures) (metadata-Decides c.args.metadata.now c.args.other.now)
