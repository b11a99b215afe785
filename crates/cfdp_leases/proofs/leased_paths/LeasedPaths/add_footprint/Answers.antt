use Rattle.std.proofs.Common.{refl, sym, ◌∙◌, ap, ◌++◌, append_assoc}
use Rattle.std.specs.List.{list_any}
use Rattle.std.specs.FinSet as set
use Rattle.std.proofs.lemmas.Result.{on_ok_weaker, on_err_weaker}
use Rattle.cfdp_paths.specs.Paths.{same_path}
use Rattle.cfdp_leases.specs.declared.lease.Lease.TheVariants.{Exclusive, Shared}
use Rattle.cfdp_leases.specs.declared.leased_paths.Holder.{Holder}
use Rattle.cfdp_leases.specs.Footprint.{leased}
use Rattle.cfdp_leases.specs.code.Holders.{when}
use Rattle.cfdp_leases.proofs.Held.{holds_same, in_slice, unleased, when_not, others_when, some_wider}
use Rattle.cfdp_leases.proofs.leased_paths.LeasedPaths.add_footprint.Goals as goal
use Rattle.cfdp_paths.proofs.Results.{on_err}

pub returns-in_err-add_all_new-clause-err : goal.returns-in_err-add_all_new-clause-err
returns-in_err-add_all_new-clause-err c = λ holders by_hash free.
    let fp = c.args.footprint.now in
    let xs = c.exclusive.result.now in
    on_err c.from_residual.result _
    (some_wider c.args.transaction (λ p. list_any (same_path p) xs) (set.contains (leased fp)) holders holders c.add_all_new.new.self
    (c.in_err-add_all_new.ensures.err holders by_hash (λ p has. free p (sym (in_slice xs fp.exclusive p c.exclusive.ensures.paths) ∙ has))) (λ p. refl)
    (λ p none. (in_slice xs fp.exclusive p c.exclusive.ensures.paths ∙ (unleased fp p none).0, refl)))

pub returns-clause-ok : goal.returns-clause-ok
returns-clause-ok c = λ holders by_hash free.
    let fp = c.args.footprint.now in
    let xs = c.exclusive.result.now in
    let ys = c.shared.result.now in
    let first : Holder = record { transaction = c.args.transaction; lease = Exclusive } in
    let second : Holder = record { transaction = c.args.transaction; lease = Shared } in
    on_ok_weaker c.add_all.result
    (holds_same c.add_all.new.self (λ p. (holders p ++ when (list_any (same_path p) xs) first) ++ when (list_any (same_path p) ys) second) _
    (λ p. append_assoc (holders p) (when (list_any (same_path p) xs) first) (when (list_any (same_path p) ys) second)
    ∙ ap (λ more. holders p ++ more) (λ i. when (in_slice xs fp.exclusive p c.exclusive.ensures.paths i) first
    ++ when (in_slice ys fp.shared p c.shared.ensures.paths i) second)))
    (c.add_all.ensures.ok _ (c.in_ok-add_all_new.ensures.ok holders by_hash
    (λ p has. free p (sym (in_slice xs fp.exclusive p c.exclusive.ensures.paths) ∙ has))))

pub returns-clause-err : goal.returns-clause-err
returns-clause-err c = λ holders by_hash free.
    let fp = c.args.footprint.now in
    let xs = c.exclusive.result.now in
    let ys = c.shared.result.now in
    let first : Holder = record { transaction = c.args.transaction; lease = Exclusive } in
    on_err_weaker c.add_all.result
    (λ some. some_wider c.args.transaction (λ p. list_any (same_path p) ys) (set.contains (leased fp)) (λ p. holders p
    ++ when (list_any (same_path p) xs) first) holders c.add_all.new.self
    some
    (λ p. others_when first (list_any (same_path p) xs) (holders p))
    (λ p none. (
      in_slice ys fp.shared p c.shared.ensures.paths ∙ (unleased fp p none).1,
      when_not (list_any (same_path p) xs) first (holders p) (in_slice xs fp.exclusive p c.exclusive.ensures.paths ∙ (unleased fp p none).0),
    )))
    (c.add_all.ensures.err _ (c.in_ok-add_all_new.ensures.ok holders by_hash
    (λ p has. free p (sym (in_slice xs fp.exclusive p c.exclusive.ensures.paths) ∙ has))))
