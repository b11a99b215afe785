use Rattle.std.proofs.Common.{rules, ◌≡◌, sym, subst, refl, ap, ◌∙◌, None, ◌∷◌, ◌++◌, [], set, get_or, take, ◌-◌, arith}
use Rattle.std.specs.FinMap.{find}
use Rattle.cfdp_paths.specs.Paths.{path_cmp}
use Rattle.cfdp_paths.specs.PathMaps.{IsOrdered}
use Rattle.cfdp_paths.specs.code.PathMaps.{IsIndexOf}
use Rattle.cfdp_branches.specs.declared.branch.Twig.{Twig}
use Rattle.cfdp_branches.specs.Branches.{AreSameValues, IsLevels, IsShallow, has_branch, value_at}
use Rattle.cfdp_branches.specs.code.Branches.{under_names, branches_of}
use Rattle.cfdp_branches.specs.code.Branches.IsOpened.{stays}
use Rattle.cfdp_branches.specs.code.Twigs.{twigs_of}
use Rattle.cfdp_branches.proofs.Changing.{same_levels}
use Rattle.cfdp_branches.proofs.Opening.{opening_has, opening_ordered, opening_puts}
use Rattle.cfdp_branches.proofs.Pruning.{first_then, freed_gone, freed_ordered, freed_same, no_branch, pruned, same_within}
use Rattle.cfdp_branches.proofs.branch.Branch.+prune.Goals as goal

pub index_of-requires : goal.index_of-requires
index_of-requires g t c = subst (λ ts. IsOrdered (under_names (twigs_of ts))) (sym c.deref.ensures.value) c.self.invariant.0

pub invariant_of-self : goal.invariant_of-self
invariant_of-self g t c =
    let ts = c.self.inside.twigs.items in
    let us = c.remove.new.self.items in
    let v = c.self.inside.value in
    let n = c.in-Some.name.now in
    let i = c.in-Ok.index in
    let t' = c.index.result.now in
    let old = branches_of v (twigs_of ts) in
    let new = branches_of v (twigs_of us) in
    let at : IsIndexOf (n ∷ []) (under_names (twigs_of ts)) i =
    subst (λ xs. IsIndexOf (n ∷ []) (under_names (twigs_of xs)) i) c.deref.ensures.value c.in-Ok.ensures.found in
    let read : t' ≡ get_or ts i t' = search rules in
    let same : AreSameValues new old = subst (λ xs. AreSameValues (branches_of v (twigs_of xs)) old) (sym c.remove.ensures.items)
    (freed_same v n ts i t' c.self.invariant.0 at read c.levels.result c.levels.ensures.levels c.if-levels-eq0.true) in (
      subst (λ xs. IsOrdered (under_names (twigs_of xs))) (sym c.remove.ensures.items) (freed_ordered v n ts i t' c.self.invariant.0 at read),
      same_levels old new c.self.inside.levels same c.self.invariant.1,
      same_within old new same c.self.invariant.2,
    )

pub invariant_of-self-else-levels-eq0 : goal.invariant_of-self-else-levels-eq0
invariant_of-self-else-levels-eq0 g t c =
    let ts = c.self.inside.twigs.items in
    let v = c.self.inside.value in
    let n = c.in-Some.name.now in
    let q = c.next.new.self in
    let i = c.in-Ok.index in
    let t' = c.index_mut.result.now in
    let u : Twig g.row.T.Denot = record { name = c.index_mut.result.now.name; branch = c.prune.new.self } in
    let names : c.args.names ≡ n ∷ q = search rules in
    let at : IsIndexOf (n ∷ []) (under_names (twigs_of ts)) i =
    subst (λ xs. IsIndexOf (n ∷ []) (under_names (twigs_of xs)) i) c.deref.ensures.value c.in-Ok.ensures.found in
    let new = branches_of v (twigs_of (set ts i u)) in
    let same : AreSameValues new c.args.self.now =
    opening_puts c.args.self.now v n q c.args.names ts ts i t' u c.self.invariant.0 c.self.view_is names stays at c.index_mut.ensures.value refl None
    c.prune.ensures.values in (
      opening_ordered c.args.self.now v n q c.args.names ts ts i t' u c.self.invariant.0 c.self.view_is names stays at c.index_mut.ensures.value refl,
      same_levels c.args.self.now new c.self.inside.levels same (subst (λ es. IsLevels es c.self.inside.levels) c.self.view_is c.self.invariant.1),
      same_within c.args.self.now new same (subst (IsShallow 0) c.self.view_is c.self.invariant.2),
    )

pub returns-then-levels-eq0-clause-values : goal.returns-then-levels-eq0-clause-values
returns-then-levels-eq0-clause-values g t c =
    let ts = c.self.inside.twigs.items in
    let v = c.self.inside.value in
    let n = c.in-Some.name.now in
    let i = c.in-Ok.index in
    let t' = c.index.result.now in
    let at : IsIndexOf (n ∷ []) (under_names (twigs_of ts)) i =
    subst (λ xs. IsIndexOf (n ∷ []) (under_names (twigs_of xs)) i) c.deref.ensures.value c.in-Ok.ensures.found in
    let read : t' ≡ get_or ts i t' = search rules in
    subst (λ es. AreSameValues (branches_of v (twigs_of c.remove.new.self.items)) es) c.self.view_is
    (subst (λ xs. AreSameValues (branches_of v (twigs_of xs)) (branches_of v (twigs_of ts))) (sym c.remove.ensures.items)
    (freed_same v n ts i t' c.self.invariant.0 at read c.levels.result c.levels.ensures.levels c.if-levels-eq0.true))

pub returns-else-levels-eq0-clause-values : goal.returns-else-levels-eq0-clause-values
returns-else-levels-eq0-clause-values g t c =
    let ts = c.self.inside.twigs.items in
    let n = c.in-Some.name.now in
    let i = c.in-Ok.index in
    let u : Twig g.row.T.Denot = record { name = c.index_mut.result.now.name; branch = c.prune.new.self } in
    let names : c.args.names ≡ n ∷ c.next.new.self = search rules in
    let at : IsIndexOf (n ∷ []) (under_names (twigs_of ts)) i =
    subst (λ xs. IsIndexOf (n ∷ []) (under_names (twigs_of xs)) i) c.deref.ensures.value c.in-Ok.ensures.found in
    opening_puts c.args.self.now c.self.inside.value n c.next.new.self c.args.names ts ts i c.index_mut.result.now u c.self.invariant.0 c.self.view_is names
    stays at c.index_mut.ensures.value refl None c.prune.ensures.values

pub returns-then-levels-eq0-clause-freed : goal.returns-then-levels-eq0-clause-freed
returns-then-levels-eq0-clause-freed g t c = λ named k some none.
    let ts = c.self.inside.twigs.items in
    let v = c.self.inside.value in
    let n = c.in-Some.name.now in
    let q = c.next.new.self in
    let i = c.in-Ok.index in
    let t' = c.index.result.now in
    let at : IsIndexOf (n ∷ []) (under_names (twigs_of ts)) i =
    subst (λ xs. IsIndexOf (n ∷ []) (under_names (twigs_of xs)) i) c.deref.ensures.value c.in-Ok.ensures.found in
    let read : t' ≡ get_or ts i t' = search rules in
    let names : c.args.names ≡ n ∷ q = search rules in
    first_then (has_branch (branches_of v (twigs_of c.remove.new.self.items))) n q c.args.names k names some
    ∙ ap (λ xs. has_branch (branches_of v (twigs_of xs)) (n ∷ take (k - 1) q)) c.remove.ensures.items
    ∙ freed_gone v n ts i t' c.self.invariant.0 at read (take (k - 1) q)

pub returns-else-levels-eq0-clause-freed : goal.returns-else-levels-eq0-clause-freed
returns-else-levels-eq0-clause-freed g t c = λ named k some none.
    let ts = c.self.inside.twigs.items in
    let v = c.self.inside.value in
    let n = c.in-Some.name.now in
    let q = c.next.new.self in
    let i = c.in-Ok.index in
    let one = c.index.result.now in
    let two = c.index_mut.result.now in
    let u : Twig g.row.T.Denot = record { name = two.name; branch = c.prune.new.self } in
    let names : c.args.names ≡ n ∷ q = search rules in
    let at : IsIndexOf (n ∷ []) (under_names (twigs_of ts)) i =
    subst (λ xs. IsIndexOf (n ∷ []) (under_names (twigs_of xs)) i) c.deref.ensures.value c.in-Ok.ensures.found in
    let read : one ≡ get_or ts i one = search rules in
    first_then (has_branch (branches_of v (twigs_of (set ts i u)))) n q c.args.names k names some
    ∙ opening_has c.args.self.now v n q c.args.names ts ts i two u c.self.invariant.0 c.self.view_is names stays at c.index_mut.ensures.value refl
    (take (k - 1) q)
    ∙ pruned c.args.self.now v ts c.self.invariant.0 c.self.view_is c.args.names q n i (k - 1) one two c.prune.new.self c.levels.result names at read
    c.index_mut.ensures.value c.levels.ensures.levels (λ zero. omega (arith, zero, c.if-levels-eq0.false)) c.prune.ensures.freed
    (λ p. sym (first_then (λ ns. value_at c.args.self.now (ns ++ p)) n q c.args.names k names some) ∙ none p)

pub returns-in_default-index_of-clause-freed : goal.returns-in_default-index_of-clause-freed
returns-in_default-index_of-clause-freed g t c = λ named k some none.
    let n = c.in-Some.name.now in
    let q = c.next.new.self in
    let names : c.args.names ≡ n ∷ q = search rules in
    first_then (has_branch c.args.self.now) n q c.args.names k names some
    ∙ no_branch c.args.self.now c.self.inside.value c.self.inside.twigs.items c.self.invariant.0 c.self.view_is n (take (k - 1) q)
    (subst (λ xs. find path_cmp (n ∷ []) (under_names (twigs_of xs)) ≡ None) c.deref.ensures.value c.in_default-index_of.ensures.absent)
