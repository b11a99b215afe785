use Rattle.std.specs.FinSet as set
use Rattle.std.proofs.Common.{◌∙◌, ap}
use Rattle.std.proofs.lemmas.Result.{on_err_weaker}
use Rattle.cfdp_leases.specs.Footprint.{leased}
use Rattle.cfdp_leases.proofs.Held.{holds_same, left, taken_back}
use Rattle.cfdp_leases.specs.code.Holders.{others}
use Rattle.cfdp_leases.proofs.leased_paths.LeasedPaths.lease.Goals as goal

-- what some of them have is taken back
pub returns-then-is_err-clause-err : goal.returns-then-is_err-clause-err
returns-then-is_err-clause-err c = λ holders by_hash free unheld.
    let id = c.args.transaction in
    let at = set.contains (leased c.args.footprint.now) in
    on_err_weaker c.add_footprint-leased.result
    (λ some. holds_same c.release.new.self (λ p. left id (at p) (some.now p)) holders
    (λ p. taken_back id at holders c.add_footprint-leased.new.self some p (unheld p))
    (c.release.ensures some.now some.by_hash (λ p has. some.kept p ∙ ap (others id) (free p has))))
    (c.add_footprint-leased.ensures.err holders by_hash free)
