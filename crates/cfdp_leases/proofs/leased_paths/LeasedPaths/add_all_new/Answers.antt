use Rattle.std.proofs.Common.{List, subst, take, take_all, ◌++◌}
use Rattle.std.specs.List.{list_any}
use Rattle.cfdp_paths.specs.Paths.{Path, same_path}
use Rattle.cfdp_leases.specs.code.Holders.{Holds, when}
use Rattle.cfdp_leases.proofs.Held.{free_yet, holds_same, when_more, when_not, others_when, not_before}
use Rattle.cfdp_leases.proofs.leased_paths.LeasedPaths.add_all_new.Goals as goal
use Rattle.cfdp_paths.proofs.Results.{on_err}

pub returns-in_err-add_new-clause-err : goal.returns-in_err-add_new-clause-err
returns-in_err-add_new-clause-err c = λ holders by_hash free.
    let xs = c.args.paths.now in
    let i = c.loop-path.path-index in
    on_err c.from_residual.result _ (record {
      now = λ p. holders p ++ when (list_any (same_path p) (take i xs)) c.args.holder;
      by_hash = c.in_err-add_new.ensures.err _ (c.loop-path.invariant holders by_hash free);
      kept = λ p. others_when c.args.holder (list_any (same_path p) (take i xs)) (holders p);
      elsewhere = λ p none. when_not (list_any (same_path p) (take i xs)) c.args.holder (holders p) (not_before xs i p none);
    })

pub loop-path-preserved : goal.loop-path-preserved
loop-path-preserved c = λ holders by_hash free.
    holds_same c.add_new.new.self
    (λ p. (holders p ++ when (list_any (same_path p) (take c.loop-path.path-index c.args.paths.now)) c.args.holder)
    ++ when (same_path p c.path-item.result) c.args.holder) _
    (λ p. when_more c.args.paths.now c.loop-path.path-index c.path-item.result p c.args.holder (holders p) c.requires c.loop-path-test.true c.path-item.is)
    (c.in_ok-add_new.ensures.ok _ (c.loop-path.invariant holders by_hash free)
    (free_yet c.args.paths.now c.loop-path.path-index c.path-item.result c.args.holder holders c.requires c.loop-path-test.true c.path-item.is free))

pub returns-clause-ok : goal.returns-clause-ok
returns-clause-ok c = λ holders by_hash free.
    subst (λ (xs : List Path). Holds c.loop-path.self (λ p. holders p ++ when (list_any (same_path p) xs) c.args.holder))
    (take_all c.loop-path.path-index c.args.paths.now c.loop-path-test.false) (c.loop-path.invariant holders by_hash free)
