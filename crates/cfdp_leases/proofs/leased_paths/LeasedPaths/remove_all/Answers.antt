use Rattle.std.proofs.Common.{List, subst, take, take_all}
use Rattle.std.specs.List.{list_any}
use Rattle.cfdp_paths.specs.Paths.{Path, same_path}
use Rattle.cfdp_leases.specs.code.Holders.{Holds}
use Rattle.cfdp_leases.proofs.Held.{holds_same, left, left_more}
use Rattle.cfdp_leases.proofs.leased_paths.LeasedPaths.remove_all.Goals as goal

pub loop-path-preserved : goal.loop-path-preserved
loop-path-preserved c = λ holders by_hash.
    let id = c.args.transaction in
    holds_same c.remove.new.self
    (λ p. left id (same_path p c.path-item.result) (left id (list_any (same_path p) (take c.loop-path.path-index c.args.paths.now)) (holders p))) _
    (λ p. left_more id c.args.paths.now c.loop-path.path-index c.path-item.result p (holders p) c.loop-path-test.true c.path-item.is)
    (c.remove.ensures _ (c.loop-path.invariant holders by_hash))

pub returns : goal.returns
returns c = λ holders by_hash.
    subst (λ (xs : List Path). Holds c.loop-path.self (λ p. left c.args.transaction (list_any (same_path p) xs) (holders p)))
    (take_all c.loop-path.path-index c.args.paths.now c.loop-path-test.false) (c.loop-path.invariant holders by_hash)
