use Rattle.std.proofs.Common.{refl, sym, ◌∙◌, ap, subst, None}
use Rattle.cfdp_paths.specs.Paths.{same_path}
use Rattle.cfdp_paths.proofs.Comparing.{same_path-Decides}
use Rattle.cfdp_leases.specs.declared.leased_paths.LeasedPaths.{LeasedPaths}
use Rattle.cfdp_leases.specs.code.Holders.{Holds, IsOtherPath, unless_none}
use Rattle.cfdp_leases.proofs.Held.{emptied, other_absent, other_apart, other_changed, under_removed}
use Rattle.cfdp_leases.proofs.leased_paths.LeasedPaths.drop_path.Goals as goal
use Rattle.cfdp_leases.proofs.leased_paths.LeasedPaths.drop_path.Goals.{in_default-via-in-Some+else-eq, in_default-via-in_default}
use Rattle.cfdp_actions.proofs.Order.{same_path-refl}

pub returns-in-Some : goal.returns-in-Some
returns-in-Some c = λ holders held.
    let k = c.args.path.now in
    let held_path = c.in-Some.held_path.now in
    let old = c.args.self.now in
    let new : LeasedPaths = record { by_hash = c.remove.new.self; others = old.others } in
    under_removed old new holders held k (λ p. emptied (same_path p k) (holders p)) (λ q other. ap (λ b. emptied b (holders q)) other)
    c.hash-hash.result c.hash-hash.ensures held_path (sym c.in-Some.ensures.value) ((same_path-Decides held_path.path k).0 (sym c.eq.ensures ∙ c.if-eq.true))
    (λ p. refl) c.remove.ensures.updates.0
    (sym (ap (λ b. unless_none (emptied b (holders k))) (same_path-refl k)))

pub returns-in_default : goal.returns-in_default
returns-in_default c = λ holders held.
    let k = c.args.path.now in
    let old = c.in_default.self in
    let new : LeasedPaths = record { by_hash = old.by_hash; others = c.remove-in_default.new.self } in
    let before : IsOtherPath old k × Holds old holders = elim c.in_default.branch [
      | in_default-via-in-Some+else-eq w ↦
          subst (λ paths. IsOtherPath paths k × Holds paths holders) (sym w.self-is) (
            other_apart c.args.self.now k c.hash-hash.result c.hash-hash.ensures w.in-Some.held_path.now (sym w.in-Some.ensures.value) (sym w.eq.ensures
                ∙ w.if-eq.false),
            held,
          )
      | in_default-via-in_default w ↦
          subst (λ paths. IsOtherPath paths k × Holds paths holders) (sym w.self-is)
          (other_absent c.args.self.now k c.hash-hash.result c.hash-hash.ensures (sym w.in_default.ensures.value), held)
    ] in
    other_changed old new holders before.1 k (λ p. emptied (same_path p k) (holders p)) (λ q other. ap (λ b. emptied b (holders q)) other) None (λ h. refl)
    c.remove-in_default.ensures.updates.0 before.0
    (sym (ap (λ b. unless_none (emptied b (holders k))) (same_path-refl k)))
