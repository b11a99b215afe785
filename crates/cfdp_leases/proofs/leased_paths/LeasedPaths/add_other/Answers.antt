use Rattle.std.proofs.Common.{rules, refl, sym, ◌∙◌, ap, ◌++◌, ◌∷◌, [], Some}
use Rattle.std.proofs.lemmas.Result.{on_ok_weaker, on_err_weaker}
use Rattle.cfdp_paths.specs.Paths.{same_path}
use Rattle.cfdp_leases.specs.declared.leased_paths.LeasedPaths.{LeasedPaths}
use Rattle.cfdp_leases.specs.code.Holders.{when, unless_none}
use Rattle.cfdp_leases.proofs.Held.{other_changed, other_is, other_there, some_pushed, when_here, when_not}
use Rattle.cfdp_leases.proofs.leased_paths.LeasedPaths.add_other.Goals as goal

-- the path has the holders that it had, and is lent back
pub returns-in-Some-clause-err : goal.returns-in-Some-clause-err
returns-in-Some-clause-err c = λ holders held.
    let k = c.args.path.now in
    let held_path = c.add.new.self in
    let old = c.args.self.now in
    let new : LeasedPaths = record { by_hash = old.by_hash; others = c.get_mut.follows.lender held_path } in
    on_err_weaker c.add.result
    (λ same. other_changed old new holders held k holders (λ q other. refl) (Some held_path) (λ h. refl)
    ((c.get_mut.follows.holds held_path).3 (search rules)).0 c.requires
    (ap Some same ∙ other_is old k holders held c.requires c.in-Some.holders.now (sym c.in-Some.ensures.value))) c.add.ensures.err

pub returns-in-Some-clause-ok : goal.returns-in-Some-clause-ok
returns-in-Some-clause-ok c = λ holders held.
    let k = c.args.path.now in
    let h = c.args.holder in
    let held_path = c.add.new.self in
    let old = c.args.self.now in
    let new : LeasedPaths = record { by_hash = old.by_hash; others = c.get_mut.follows.lender held_path } in
    let before = other_there old k holders held c.requires c.in-Some.holders.now (sym c.in-Some.ensures.value) in
    on_ok_weaker c.add.result
    (λ more. other_changed old new holders held k (λ p. holders p ++ when (same_path p k) h) (λ q other. when_not (same_path q k) h (holders q) other)
    (Some held_path) (λ q. refl)
    ((c.get_mut.follows.holds held_path).3 (search rules)).0 c.requires
    (ap Some (more ∙ ap (λ xs. xs ++ h ∷ []) before) ∙ some_pushed (holders k) h ∙ ap unless_none (when_here k h (holders k)))) c.add.ensures.ok
