use Rattle.std.proofs.Common.{rules, ◌≡◌, refl, sym, ◌∙◌, ap, cond, subst, ◌++◌, ◌∷◌, [], None, Some}
use Rattle.std.specs.BTreeMap.{get}
use Rattle.std.specs.Ordering.{is_eq, nat_cmp}
use Rattle.cfdp_paths.specs.Paths.{path_cmp, same_path}
use Rattle.cfdp_leases.specs.declared.leased_paths.Holders.TheVariants.{One}
use Rattle.cfdp_leases.specs.declared.leased_paths.LeasedPaths.{LeasedPaths}
use Rattle.cfdp_leases.specs.code.Holders.{when, unless_none}
use Rattle.cfdp_leases.proofs.Held.{IsOf, free_none, holds_kept, other_changed, some_pushed, under_changed, when_here, when_not}
use Rattle.cfdp_leases.proofs.leased_paths.LeasedPaths.add_new.Goals as goal
use Rattle.cfdp_paths.proofs.Results.{on_err}

-- no room for a record
pub returns-in_err-slot-clause-err : goal.returns-in_err-slot-clause-err
returns-in_err-slot-clause-err c = λ holders held.
    let old = c.args.self.now in
    let new : LeasedPaths = record { by_hash = c.entry.follows.lender-at-none; others = old.others } in
    let same : c.entry.follows.lender-at-none.entries ≡ old.by_hash.entries = search rules in
    on_err c.from_residual-in_err-slot.result _ (holds_kept old new holders held (λ h. cc same) (λ p. refl))

pub returns-in_err-insert-in-Occupied-clause-err : goal.returns-in_err-insert-in-Occupied-clause-err
returns-in_err-insert-in-Occupied-clause-err c = λ holders held.
    let old = c.args.self.now in
    let same = c.in_err-insert-in-Occupied.ensures.err in
    on_err c.from_residual-in_err-insert-in-Occupied.result _ (holds_kept old _ holders held (λ h. search rules) (λ p. cc same))

-- another path is under the hash
pub returns-in_ok-insert-in-Occupied-clause-ok : goal.returns-in_ok-insert-in-Occupied-clause-ok
returns-in_ok-insert-in-Occupied-clause-ok c = λ holders held free.
    let k = c.args.path.now in
    let h = c.args.holder in
    let old = c.args.self.now in
    other_changed old _ holders held k (λ p. holders p ++ when (same_path p k) h) (λ q other. when_not (same_path q k) h (holders q) other) (Some (One h))
    (λ q. search rules)
    (λ q. c.in_ok-insert-in-Occupied.ensures.updates.0 q ∙ (λ i. cond (is_eq (path_cmp (c.in_ok-path.ensures i) q)) (Some (One h)) (get path_cmp old.others q)))
    (free_none old k holders held free).0
    (ap Some (ap (λ xs. xs ++ h ∷ []) (sym free)) ∙ some_pushed (holders k) h ∙ ap unless_none (when_here k h (holders k)))

-- no path is under the hash
pub returns-in-Vacant-clause-ok : goal.returns-in-Vacant-clause-ok
returns-in-Vacant-clause-ok c = λ holders held free.
    let k = c.args.path.now in
    let h = c.args.holder in
    let old = c.args.self.now in
    let hash = c.hash-hash.result in
    let absent : get nat_cmp old.by_hash hash ≡ None = search rules in
    under_changed old _ holders held k (λ p. holders p ++ when (same_path p k) h)
    (λ q other. when_not (same_path q k) h (holders q) other) hash c.hash-hash.ensures
    (Some (record { path = c.in_ok-path.path; holders = One h })) (λ q. search rules) (λ p. refl)
    (subst (IsOf k) (sym absent) tt) c.in_ok-path.ensures
    (free_none old k holders held free).1
    (ap Some (ap (λ xs. xs ++ h ∷ []) (sym free)) ∙ some_pushed (holders k) h ∙ ap unless_none (when_here k h (holders k)))
