use Rattle.std.proofs.Common.{rules, ◌≡◌, sym, ap, ◌∙◌, subst, refl, max, None, ◌∷◌, [], set, cond, is_some, ◌+◌, true≢false, arith}
use Rattle.cfdp_paths.specs.code.PathMaps.{IsIndexOf}
use Rattle.cfdp_branches.specs.declared.branch.Twig.{Twig}
use Rattle.cfdp_branches.specs.Branches.{IsLevels, IsShallow}
use Rattle.cfdp_branches.specs.code.Branches.{IsOpened, under_names, branches_of}
use Rattle.cfdp_branches.specs.code.Twigs.{twigs_of}
use Rattle.cfdp_branches.proofs.Changing.{Puts, more_levels, put_own, put_within}
use Rattle.cfdp_branches.proofs.Descending.{first_there}
use Rattle.cfdp_paths.proofs.Results.{on_err}
use Rattle.cfdp_branches.proofs.Opening.{opening_had, opening_ordered, opening_puts, opening_there, opening_value}
use Rattle.cfdp_branches.proofs.branch.Branch.+open.Goals as goal

pub invariant_of-self : goal.invariant_of-self
invariant_of-self g t c =
    let cs = twigs_of c.self.inside.twigs.items in
    let old = branches_of c.self.inside.value cs in
    let es = branches_of c.or-self-inside.result cs in
    let none : [] ≡ c.args.names = sym c.in-None.ensures.steps.0 in
    let puts : Puts c.args.value c.args.names old es =
    subst (λ ns. Puts c.args.value ns old es) none (subst (λ v. Puts c.args.value [] old (branches_of v cs)) (sym c.or-self-inside.ensures) (put_own
    c.args.value
    c.self.inside.value cs)) in (
      c.self.invariant.0,
      subst (IsLevels es) (sym (c.max-self-inside.ensures ∙ ap (max c.self.inside.levels) (c.reach_of-reach.ensures
          ∙ ap (λ d. cond (is_some c.args.value) (d + 1) 0) c.requires.depth)))
          (more_levels c.args.value c.args.names old es c.self.inside.levels puts c.self.invariant.1),
      put_within c.args.value c.args.names 0 old es puts (omega (arith, c.requires.within)) c.self.invariant.2,
    )

pub returns-in_err-old-in-Some-clause-err : goal.returns-in_err-old-in-Some-clause-err
returns-in_err-old-in-Some-clause-err g t c =
    let ts = c.self.inside.twigs.items in
    let us = c.open_twig.new.twigs.items in
    let v = c.self.inside.value in
    let n = c.in-Some.name.now in
    let q = c.next.new.self in
    let i = c.in_ok-index-in-Some.index in
    let t' = c.index_mut.result.now in
    let u : Twig g.row.T.Denot = record { name = c.index_mut.result.now.name; branch = c.open.new.self } in
    let names : c.args.names ≡ n ∷ q = search rules in
    let at : IsIndexOf (n ∷ []) (under_names (twigs_of us)) i = c.in_ok-index-in-Some.ensures.found in
    let opened : IsOpened n (twigs_of ts) (twigs_of us) = c.in_ok-index-in-Some.ensures.opened in
    on_err c.from_residual-in_err-old-in-Some.result _ (opening_puts c.args.self.now v n q c.args.names ts us i t' u c.self.invariant.0 c.self.view_is names
    opened at c.index_mut.ensures.value refl None c.in_err-old-in-Some.ensures.err)

pub invariant_of-self-in_err-old-in-Some : goal.invariant_of-self-in_err-old-in-Some
invariant_of-self-in_err-old-in-Some g t c =
    let ts = c.self.inside.twigs.items in
    let us = c.open_twig.new.twigs.items in
    let v = c.self.inside.value in
    let n = c.in-Some.name.now in
    let q = c.next.new.self in
    let i = c.in_ok-index-in-Some.index in
    let t' = c.index_mut.result.now in
    let u : Twig g.row.T.Denot = record { name = c.index_mut.result.now.name; branch = c.open.new.self } in
    let names : c.args.names ≡ n ∷ q = search rules in
    let at : IsIndexOf (n ∷ []) (under_names (twigs_of us)) i = c.in_ok-index-in-Some.ensures.found in
    let opened : IsOpened n (twigs_of ts) (twigs_of us) = c.in_ok-index-in-Some.ensures.opened in
    let es = branches_of v (twigs_of (set us i u)) in
    let puts : Puts None c.args.names c.args.self.now es = opening_puts c.args.self.now v n q c.args.names ts us i t' u c.self.invariant.0 c.self.view_is
    names opened at c.index_mut.ensures.value refl None c.in_err-old-in-Some.ensures.err in (
      opening_ordered c.args.self.now v n q c.args.names ts us i t' u c.self.invariant.0 c.self.view_is names opened at c.index_mut.ensures.value refl,
      subst (IsLevels es) (omega arith) (more_levels None c.args.names c.args.self.now es c.self.inside.levels puts (subst (λ fs. IsLevels fs
          c.self.inside.levels) c.self.view_is c.self.invariant.1)),
      put_within None c.args.names 0 c.args.self.now es puts (omega (arith, c.requires.within)) (subst (IsShallow 0) c.self.view_is c.self.invariant.2),
    )

pub invariant_of-self-in-Some : goal.invariant_of-self-in-Some
invariant_of-self-in-Some g t c =
    let ts = c.self.inside.twigs.items in
    let us = c.open_twig.new.twigs.items in
    let v = c.self.inside.value in
    let n = c.in-Some.name.now in
    let q = c.next.new.self in
    let i = c.in_ok-index-in-Some.index in
    let t' = c.index_mut.result.now in
    let u : Twig g.row.T.Denot = record { name = c.index_mut.result.now.name; branch = c.open.new.self } in
    let names : c.args.names ≡ n ∷ q = search rules in
    let at : IsIndexOf (n ∷ []) (under_names (twigs_of us)) i = c.in_ok-index-in-Some.ensures.found in
    let opened : IsOpened n (twigs_of ts) (twigs_of us) = c.in_ok-index-in-Some.ensures.opened in
    let es = branches_of v (twigs_of (set us i u)) in
    let puts : Puts c.args.value c.args.names c.args.self.now es = opening_puts c.args.self.now v n q c.args.names ts us i t' u c.self.invariant.0
    c.self.view_is names opened at c.index_mut.ensures.value refl c.args.value c.in_ok-old-in-Some.ensures.ok in (
      opening_ordered c.args.self.now v n q c.args.names ts us i t' u c.self.invariant.0 c.self.view_is names opened at c.index_mut.ensures.value refl,
      subst (IsLevels es) (sym (c.max-self-inside-in-Some.ensures ∙ ap (max c.self.inside.levels) (c.reach_of-reach.ensures
          ∙ ap (λ d. cond (is_some c.args.value) (d + 1) 0) c.requires.depth)))
          (more_levels c.args.value c.args.names c.args.self.now es c.self.inside.levels puts (subst (λ fs. IsLevels fs c.self.inside.levels) c.self.view_is
          c.self.invariant.1)),
      put_within c.args.value c.args.names 0 c.args.self.now es puts (omega (arith, c.requires.within)) (subst (IsShallow 0) c.self.view_is c.self.invariant.2),
    )

pub returns-in_ok-old-in-Some-clause-old : goal.returns-in_ok-old-in-Some-clause-old
returns-in_ok-old-in-Some-clause-old g t c =
    let ts = c.self.inside.twigs.items in
    let us = c.open_twig.new.twigs.items in
    let v = c.self.inside.value in
    let n = c.in-Some.name.now in
    let q = c.next.new.self in
    let i = c.in_ok-index-in-Some.index in
    let t' = c.index_mut.result.now in
    let u : Twig g.row.T.Denot = record { name = c.index_mut.result.now.name; branch = c.open.new.self } in
    let names : c.args.names ≡ n ∷ q = search rules in
    let at : IsIndexOf (n ∷ []) (under_names (twigs_of us)) i = c.in_ok-index-in-Some.ensures.found in
    let opened : IsOpened n (twigs_of ts) (twigs_of us) = c.in_ok-index-in-Some.ensures.opened in
    c.in_ok-old-in-Some.ensures.old ∙ opening_value c.args.self.now v n q c.args.names ts us i t' u c.self.invariant.0 c.self.view_is names opened at
    c.index_mut.ensures.value refl

pub returns-in_ok-old-in-Some-clause-there : goal.returns-in_ok-old-in-Some-clause-there
returns-in_ok-old-in-Some-clause-there g t c =
    let ts = c.self.inside.twigs.items in
    let us = c.open_twig.new.twigs.items in
    let v = c.self.inside.value in
    let n = c.in-Some.name.now in
    let q = c.next.new.self in
    let i = c.in_ok-index-in-Some.index in
    let t' = c.index_mut.result.now in
    let u : Twig g.row.T.Denot = record { name = c.index_mut.result.now.name; branch = c.open.new.self } in
    let names : c.args.names ≡ n ∷ q = search rules in
    let at : IsIndexOf (n ∷ []) (under_names (twigs_of us)) i = c.in_ok-index-in-Some.ensures.found in
    let opened : IsOpened n (twigs_of ts) (twigs_of us) = c.in_ok-index-in-Some.ensures.opened in
    opening_there c.args.self.now v n q c.args.names ts us i t' u c.self.invariant.0 c.self.view_is names opened at c.index_mut.ensures.value refl
    c.in_ok-old-in-Some.ensures.there

pub returns-in_ok-old-in-Some-clause-ok : goal.returns-in_ok-old-in-Some-clause-ok
returns-in_ok-old-in-Some-clause-ok g t c =
    let ts = c.self.inside.twigs.items in
    let us = c.open_twig.new.twigs.items in
    let v = c.self.inside.value in
    let n = c.in-Some.name.now in
    let q = c.next.new.self in
    let i = c.in_ok-index-in-Some.index in
    let t' = c.index_mut.result.now in
    let u : Twig g.row.T.Denot = record { name = c.index_mut.result.now.name; branch = c.open.new.self } in
    let names : c.args.names ≡ n ∷ q = search rules in
    let at : IsIndexOf (n ∷ []) (under_names (twigs_of us)) i = c.in_ok-index-in-Some.ensures.found in
    let opened : IsOpened n (twigs_of ts) (twigs_of us) = c.in_ok-index-in-Some.ensures.opened in
    opening_puts c.args.self.now v n q c.args.names ts us i t' u c.self.invariant.0 c.self.view_is names opened at c.index_mut.ensures.value refl c.args.value
    c.in_ok-old-in-Some.ensures.ok

pub returns-in_err-index-in-Some-clause-present : goal.returns-in_err-index-in-Some-clause-present
returns-in_err-index-in-Some-clause-present g t c = λ has.
    absurd (true≢false (sym (c.in_err-index-in-Some.ensures.present (first_there c.args.self.now c.self.inside.value c.self.inside.twigs.items
    c.self.invariant.0
    c.self.view_is c.args.names c.next.new.self c.in-Some.name.now (search rules) has))))

pub returns-in_err-old-in-Some-clause-present : goal.returns-in_err-old-in-Some-clause-present
returns-in_err-old-in-Some-clause-present g t c =
    let ts = c.self.inside.twigs.items in
    let us = c.open_twig.new.twigs.items in
    let v = c.self.inside.value in
    let n = c.in-Some.name.now in
    let q = c.next.new.self in
    let i = c.in_ok-index-in-Some.index in
    let t' = c.index_mut.result.now in
    let u : Twig g.row.T.Denot = record { name = c.index_mut.result.now.name; branch = c.open.new.self } in
    let names : c.args.names ≡ n ∷ q = search rules in
    let at : IsIndexOf (n ∷ []) (under_names (twigs_of us)) i = c.in_ok-index-in-Some.ensures.found in
    let opened : IsOpened n (twigs_of ts) (twigs_of us) = c.in_ok-index-in-Some.ensures.opened in
    λ has. absurd (true≢false (sym (c.in_err-old-in-Some.ensures.present (opening_had c.args.self.now v n q c.args.names ts us i t' u c.self.invariant.0
    c.self.view_is names opened at c.index_mut.ensures.value refl has))))
