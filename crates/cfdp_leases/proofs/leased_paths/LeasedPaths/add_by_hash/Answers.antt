use Rattle.std.proofs.Common.{rules, ◌≡◌, refl, sym, ◌∙◌, ap, cond, subst, ◌++◌, ◌∷◌, [], None, Some}
use Rattle.std.specs.BTreeMap.{get}
use Rattle.std.specs.Ordering.{is_eq, nat_cmp}
use Rattle.std.proofs.lemmas.Result.{on_ok_weaker, on_err_weaker}
use Rattle.cfdp_paths.specs.Paths.{path_cmp, same_path}
use Rattle.cfdp_paths.proofs.Comparing.{same_path-Decides}
use Rattle.cfdp_leases.specs.declared.leased_paths.Holders.TheVariants.{One}
use Rattle.cfdp_leases.specs.declared.leased_paths.LeasedPaths.{LeasedPaths}
use Rattle.cfdp_leases.specs.code.Holders.{when, unless_none}
use Rattle.cfdp_leases.proofs.Held.{IsOf, holds_kept, holds_unwritten, other_absent, other_apart, other_changed, other_none, some_pushed, under_changed, under_is, under_there, under_written, unwritten, when_here, when_not}
use Rattle.cfdp_leases.proofs.leased_paths.LeasedPaths.add_by_hash.Goals as goal
use Rattle.cfdp_paths.proofs.Results.{on_err}

-- no room for a record
pub returns-in_err-slot-clause-err : goal.returns-in_err-slot-clause-err
returns-in_err-slot-clause-err c = λ holders held.
    let old = c.args.self.now in
    let new : LeasedPaths = record { by_hash = c.entry.follows.lender-at-none; others = old.others } in
    let same : c.entry.follows.lender-at-none.entries ≡ old.by_hash.entries = search rules in
    on_err c.from_residual.result _ (holds_kept old new holders held (λ h. cc same) (λ p. refl))

-- room for a record, and no memory for the copy
pub returns-in_err-path-in-Vacant-clause-err : goal.returns-in_err-path-in-Vacant-clause-err
returns-in_err-path-in-Vacant-clause-err c = λ holders held.
    on_err c.from_residual-in_err-path-in-Vacant.result _ (holds_kept c.args.self.now _ holders held (λ h. search rules) (λ p. refl))

-- the record is the path's, and is lent back
pub returns-then-eq-clause-err : goal.returns-then-eq-clause-err
returns-then-eq-clause-err c = λ holders held.
    let k = c.args.path.now in
    let held_path = c.into_mut-held_path.result.now in
    let old = c.args.self.now in
    let found : get nat_cmp old.by_hash c.hash.result ≡ Some held_path = search rules in
    let own = (same_path-Decides held_path.path k).0 (sym c.eq.ensures ∙ c.if-eq.true) in
    on_err_weaker c.add.result
    (λ same. under_written old _ holders held k holders (λ q other. refl) c.hash.result c.hash.ensures held_path found own (λ p. refl) c.add.new.self
    (λ q. search rules) (ap Some same ∙ under_is old k holders held c.hash.result c.hash.ensures held_path found own)) c.add.ensures.err

pub returns-then-eq-clause-ok : goal.returns-then-eq-clause-ok
returns-then-eq-clause-ok c = λ holders held.
    let k = c.args.path.now in
    let h = c.args.holder in
    let held_path = c.into_mut-held_path.result.now in
    let old = c.args.self.now in
    let found : get nat_cmp old.by_hash c.hash.result ≡ Some held_path = search rules in
    let own = (same_path-Decides held_path.path k).0 (sym c.eq.ensures ∙ c.if-eq.true) in
    let before = under_there old k holders held c.hash.result c.hash.ensures held_path found own in
    on_ok_weaker c.add.result
    (λ more. under_written old _ holders held k (λ p. holders p ++ when (same_path p k) h) (λ q other. when_not (same_path q k) h (holders q) other)
    c.hash.result c.hash.ensures held_path found own (λ p. refl) c.add.new.self (λ q. search rules)
    (ap Some (more ∙ ap (λ xs. xs ++ h ∷ []) before) ∙ some_pushed (holders k) h ∙ ap unless_none (when_here k h (holders k)))) c.add.ensures.ok

-- another path is under the hash, and its record is lent back as it was
pub returns-in_err-copy-in-Occupied-clause-err : goal.returns-in_err-copy-in-Occupied-clause-err
returns-in_err-copy-in-Occupied-clause-err c = λ holders held.
    let held_path = c.into_mut-held_path.result.now in
    let old = c.args.self.now in
    let found : get nat_cmp old.by_hash c.hash.result ≡ Some held_path = search rules in
    on_err c.from_residual-in_err-copy-in-Occupied.result _ (holds_unwritten old _ holders held c.hash.result held_path (λ q. search rules) found (λ p. refl))

pub returns-in_err-insert-in-Occupied-clause-err : goal.returns-in_err-insert-in-Occupied-clause-err
returns-in_err-insert-in-Occupied-clause-err c = λ holders held.
    let held_path = c.into_mut-held_path.result.now in
    let old = c.args.self.now in
    let found : get nat_cmp old.by_hash c.hash.result ≡ Some held_path = search rules in
    let same = c.in_err-insert-in-Occupied.ensures.err in
    on_err c.from_residual-in_err-insert-in-Occupied.result _
    (holds_unwritten old _ holders held c.hash.result held_path (λ q. search rules) found (λ p. cc same))

pub returns-in_ok-insert-in-Occupied-clause-ok : goal.returns-in_ok-insert-in-Occupied-clause-ok
returns-in_ok-insert-in-Occupied-clause-ok c = λ holders held.
    let k = c.args.path.now in
    let h = c.args.holder in
    let held_path = c.into_mut-held_path.result.now in
    let old = c.args.self.now in
    let found : get nat_cmp old.by_hash c.hash.result ≡ Some held_path = search rules in
    let other = other_apart old k c.hash.result c.hash.ensures held_path found (sym c.eq.ensures ∙ c.if-eq.false) in
    let free = other_none old k holders held other c.requires in
    other_changed old _ holders held k (λ p. holders p ++ when (same_path p k) h) (λ q other. when_not (same_path q k) h (holders q) other) (Some (One h))
    (unwritten (get nat_cmp old.by_hash) _ c.hash.result held_path (λ q. search rules) found)
    (λ q. c.in_ok-insert-in-Occupied.ensures.updates.0 q
    ∙ (λ i. cond (is_eq (path_cmp (c.in_ok-copy-in-Occupied.ensures i) q)) (Some (One h)) (get path_cmp old.others q)))
    other
    (ap Some (ap (λ xs. xs ++ h ∷ []) free) ∙ some_pushed (holders k) h ∙ ap unless_none (when_here k h (holders k)))

-- no path is under the hash
pub returns-in_ok-path-in-Vacant-clause-ok : goal.returns-in_ok-path-in-Vacant-clause-ok
returns-in_ok-path-in-Vacant-clause-ok c = λ holders held.
    let k = c.args.path.now in
    let h = c.args.holder in
    let old = c.args.self.now in
    let absent : get nat_cmp old.by_hash c.hash.result ≡ None = search rules in
    let free = other_none old k holders held (other_absent old k c.hash.result c.hash.ensures absent) c.requires in
    under_changed old _ holders held k (λ p. holders p ++ when (same_path p k) h) (λ q other. when_not (same_path q k) h (holders q) other)
    c.hash.result c.hash.ensures (Some (record { path = c.in_ok-path-in-Vacant.path; holders = One h })) (λ q. search rules) (λ p. refl)
    (subst (IsOf k) (sym absent) tt) c.in_ok-path-in-Vacant.ensures c.requires
    (ap Some (ap (λ xs. xs ++ h ∷ []) free) ∙ some_pushed (holders k) h ∙ ap unless_none (when_here k h (holders k)))
