use Rattle.std.proofs.Common.{rules, refl, sym, ◌∙◌, ap, subst, ◌++◌, ◌∷◌, [], Some}
use Rattle.std.specs.BTreeMap.{get}
use Rattle.std.specs.Ordering.{nat_cmp}
use Rattle.std.proofs.lemmas.Result.{on_ok_weaker, on_err_weaker}
use Rattle.cfdp_paths.specs.Paths.{same_path}
use Rattle.cfdp_paths.proofs.Comparing.{same_path-Decides}
use Rattle.cfdp_leases.specs.declared.leased_paths.LeasedPaths.{LeasedPaths}
use Rattle.cfdp_leases.specs.code.Holders.{Holds, when, unless_none}
use Rattle.cfdp_leases.proofs.Held.{holds_kept, holds_unwritten, some_pushed, under_is, under_there, under_written, when_here, when_not}
use Rattle.cfdp_leases.proofs.leased_paths.LeasedPaths.add.Goals as goal
use Rattle.cfdp_leases.proofs.leased_paths.LeasedPaths.add.Goals.{in_default-via-in-Some+else-eq, in_default-via-in-None-1}

-- the path has the holders that it had, and its record is lent back
pub returns-in-Some-clause-err : goal.returns-in-Some-clause-err
returns-in-Some-clause-err c = λ holders held.
    let k = c.args.path.now in
    let held_path = c.in-Some.held_path.now in
    let old = c.args.self.now in
    let new : LeasedPaths = record { by_hash = c.get_mut.follows.lender (record { path = held_path.path; holders = c.add.new.self }); others = old.others } in
    let own = (same_path-Decides held_path.path k).0 (sym c.eq.ensures ∙ c.if-eq.true) in
    on_err_weaker c.add.result
    (λ same. under_written old new holders held k holders (λ q other. refl) c.hash.result c.hash.ensures held_path (sym c.in-Some.ensures.value) own
    (λ p. refl) c.add.new.self
    ((c.get_mut.follows.holds (record { path = held_path.path; holders = c.add.new.self })).3 (search rules)).0
    (ap Some same ∙ under_is old k holders held c.hash.result c.hash.ensures held_path (sym c.in-Some.ensures.value) own)) c.add.ensures.err

pub returns-in-Some-clause-ok : goal.returns-in-Some-clause-ok
returns-in-Some-clause-ok c = λ holders held.
    let k = c.args.path.now in
    let h = c.args.holder in
    let held_path = c.in-Some.held_path.now in
    let old = c.args.self.now in
    let new : LeasedPaths = record { by_hash = c.get_mut.follows.lender (record { path = held_path.path; holders = c.add.new.self }); others = old.others } in
    let own = (same_path-Decides held_path.path k).0 (sym c.eq.ensures ∙ c.if-eq.true) in
    let before = under_there old k holders held c.hash.result c.hash.ensures held_path (sym c.in-Some.ensures.value) own in
    on_ok_weaker c.add.result
    (λ more. under_written old new holders held k (λ p. holders p ++ when (same_path p k) h) (λ q other. when_not (same_path q k) h (holders q) other)
    c.hash.result c.hash.ensures held_path (sym c.in-Some.ensures.value) own (λ p. refl) c.add.new.self
    ((c.get_mut.follows.holds (record { path = held_path.path; holders = c.add.new.self })).3 (search rules)).0
    (ap Some (more ∙ ap (λ xs. xs ++ h ∷ []) before) ∙ some_pushed (holders k) h ∙ ap unless_none (when_here k h (holders k)))) c.add.ensures.ok

-- another path is under the hash, and its record is lent back as it was; or none is
pub returns-in_default-clause-ok : goal.returns-in_default-clause-ok
returns-in_default-clause-ok c = λ holders held.
    let old = c.args.self.now in
    c.add_other.ensures.ok holders
    (elim c.in_default.branch [
      | in_default-via-in-Some+else-eq w ↦
          let held_path = w.in-Some.held_path.now in
          let new : LeasedPaths = record { by_hash = c.get_mut.follows.lender held_path; others = old.others } in
          subst (λ paths. Holds paths holders) (sym w.self-is)
          (holds_unwritten old new holders held c.hash.result held_path ((c.get_mut.follows.holds held_path).3 (search rules)).0
          (sym w.in-Some.ensures.value) (λ p. refl))
      | in_default-via-in-None-1 w ↦
          let new : LeasedPaths = record { by_hash = c.get_mut.follows.lender-at-none; others = old.others } in
          subst (λ paths. Holds paths holders) (sym w.self-is)
          (holds_kept old new holders held (λ h. ap (λ m. get nat_cmp m h) c.get_mut.follows.holds-at-none) (λ p. refl))
    ])

pub returns-in_default-clause-err : goal.returns-in_default-clause-err
returns-in_default-clause-err c = λ holders held.
    let old = c.args.self.now in
    c.add_other.ensures.err holders
    (elim c.in_default.branch [
      | in_default-via-in-Some+else-eq w ↦
          let held_path = w.in-Some.held_path.now in
          let new : LeasedPaths = record { by_hash = c.get_mut.follows.lender held_path; others = old.others } in
          subst (λ paths. Holds paths holders) (sym w.self-is)
          (holds_unwritten old new holders held c.hash.result held_path ((c.get_mut.follows.holds held_path).3 (search rules)).0
          (sym w.in-Some.ensures.value) (λ p. refl))
      | in_default-via-in-None-1 w ↦
          let new : LeasedPaths = record { by_hash = c.get_mut.follows.lender-at-none; others = old.others } in
          subst (λ paths. Holds paths holders) (sym w.self-is)
          (holds_kept old new holders held (λ h. ap (λ m. get nat_cmp m h) c.get_mut.follows.holds-at-none) (λ p. refl))
    ])
