use Rattle.std.proofs.Common.{rules, ◌≡◌, sym, ap, ◌∙◌, subst, refl, cond, drop, None, IsSome, OnErr, ◌∷◌, [], IsTrue, length, set, arith}
use Rattle.std.specs.FinMap.{find}
use Rattle.cfdp_paths.specs.Paths.{is_at_or_below, path_cmp}
use Rattle.cfdp_paths.specs.code.PathMaps.{IsIndexOf}
use Rattle.cfdp_branches.specs.declared.branch.Twig.{Twig}
use Rattle.cfdp_paths.specs.PathMaps.{IsOrdered}
use Rattle.cfdp_branches.specs.Branches.{IsLevels, IsShallow, has_branch, value_at}
use Rattle.cfdp_branches.specs.code.Branches.{under_names, branches_of}
use Rattle.cfdp_branches.specs.code.Twigs.{twigs_of}
use Rattle.cfdp_paths.proofs.InOrder.{ordered-put}
use Rattle.cfdp_branches.proofs.Changing.{exchanged_below, exchanged_within, taken_within}
use Rattle.cfdp_branches.proofs.Descending.{names_found, names_there, ok_there}
use Rattle.cfdp_branches.proofs.Seeking.{below_index, branch_put}
use Rattle.cfdp_branches.proofs.branch.Branch.+swap.Goals as goal

pub index_of-requires : goal.index_of-requires
index_of-requires g t c = subst (λ ts. IsOrdered (under_names (twigs_of ts))) (sym c.deref.ensures.value) c.self.invariant.0

pub unwrap-index-requires : goal.unwrap-index-requires
unwrap-index-requires g t c =
    ok_there c.args.self.now c.self.inside.value c.self.inside.twigs.items c.self.invariant.0 c.self.view_is c.index_of.result c.args.names c.next.new.self
    c.in-Some.name.now
    (search rules) (subst (λ ts. OnErr c.index_of.result (find path_cmp (c.in-Some.name.now ∷ []) (under_names (twigs_of ts))
    ≡ None)) c.deref.ensures.value c.index_of.ensures.absent) c.requires.there

pub swap-requires-in-Some : goal.swap-requires-in-Some
swap-requires-in-Some g t c κs within =
    let ts = c.self.inside.twigs.items in
    let names : c.args.names ≡ c.in-Some.name.now ∷ c.next.new.self = search rules in
    let at : IsIndexOf (c.in-Some.name.now ∷ []) (under_names (twigs_of ts)) c.unwrap-index.result = search rules in
    let there : IsTrue (has_branch c.index_mut.result.now.branch c.next.new.self) =
    names_there c.args.self.now c.self.inside.value ts c.self.invariant.0 c.self.view_is c.args.names c.next.new.self c.in-Some.name.now c.unwrap-index.result
    c.index_mut.result.now names at c.index_mut.ensures.value ∙ c.requires.there in
    let shallow : IsShallow (length c.next.new.self) c.args.other.now = λ p some. omega (arith, c.requires.shallow p some, ap length names) in
    search rules

pub levels_of-self-inside-requires : goal.levels_of-self-inside-requires
levels_of-self-inside-requires g t c =
    let ts = c.self.inside.twigs.items in
    let at : IsIndexOf (c.in-Some.name.now ∷ []) (under_names (twigs_of ts)) c.unwrap-index.result = search rules in
    subst (λ us. IsOrdered (under_names (twigs_of us))) (sym c.deref-in-Some.ensures.value)
    (ordered-put (c.in-Some.name.now ∷ []) c.swap-in-Some.new.self (under_names (twigs_of ts)) _ (branch_put c.in-Some.name.now ts c.unwrap-index.result
    c.index_mut.result.now
    (record { name = c.index_mut.result.now.name; branch = c.swap-in-Some.new.self }) at c.index_mut.ensures.value refl) c.self.invariant.0)

pub returns-in-Some-clause-exchanged : goal.returns-in-Some-clause-exchanged
returns-in-Some-clause-exchanged g t c =
    let ts = c.self.inside.twigs.items in
    let n = c.in-Some.name.now in
    let v = c.self.inside.value in
    let names : c.args.names ≡ n ∷ c.next.new.self = search rules in
    let at : IsIndexOf (n ∷ []) (under_names (twigs_of ts)) c.unwrap-index.result = search rules in
    let u : Twig g.row.T.Denot = record { name = c.index_mut.result.now.name; branch = c.swap-in-Some.new.self } in
    λ p.
    exchanged_below v n c.next.new.self c.index_mut.result.now.branch c.swap-in-Some.new.self c.args.other.now (twigs_of ts) (twigs_of (set ts
    c.unwrap-index.result u))
    c.self.invariant.0 (λ q. below_index n q ts c.unwrap-index.result c.index_mut.result.now c.self.invariant.0 at c.index_mut.ensures.value)
    (branch_put n ts c.unwrap-index.result c.index_mut.result.now u at c.index_mut.ensures.value refl) c.swap-in-Some.ensures.exchanged p
    ∙ ap (λ ns. cond (is_at_or_below p ns) (find path_cmp (drop (length ns) p) c.args.other.now) (find path_cmp p (branches_of v (twigs_of ts)))) (sym names)
    ∙ ap (λ es. cond (is_at_or_below p c.args.names) (find path_cmp (drop (length c.args.names) p) c.args.other.now) (find path_cmp p es)) c.self.view_is

pub invariant_of-self : goal.invariant_of-self
invariant_of-self g t c =
    let ts = c.self.inside.twigs.items in
    let n = c.in-Some.name.now in
    let v = c.self.inside.value in
    let at : IsIndexOf (n ∷ []) (under_names (twigs_of ts)) c.unwrap-index.result = search rules in
    let u : Twig g.row.T.Denot = record { name = c.index_mut.result.now.name; branch = c.swap-in-Some.new.self } in (
      ordered-put (n ∷ []) c.swap-in-Some.new.self (under_names (twigs_of ts)) _ (branch_put n ts c.unwrap-index.result c.index_mut.result.now u at
          c.index_mut.ensures.value refl)
          c.self.invariant.0,
      subst (λ us. IsLevels (branches_of v (twigs_of us)) c.levels_of-self-inside.result) c.deref-in-Some.ensures.value c.levels_of-self-inside.ensures,
      exchanged_within c.args.names (branches_of v (twigs_of ts)) c.args.other.now (branches_of v (twigs_of (set ts c.unwrap-index.result u)))
          (λ p. returns-in-Some-clause-exchanged g t c p ∙ ap (λ es. cond (is_at_or_below p c.args.names) (find path_cmp (drop (length c.args.names) p)
          c.args.other.now) (find path_cmp p es)) (sym c.self.view_is))
          c.self.invariant.2 c.requires.shallow,
    )

pub returns-in-None-clause-within : goal.returns-in-None-clause-within
returns-in-None-clause-within g t c = λ p some.
    omega (arith, c.levels.ensures.shallow p (subst (λ es. IsSome (value_at es p)) c.swap.ensures.y_after some), ap length c.in-None.ensures.steps.0)

pub returns-in-Some-clause-taken : goal.returns-in-Some-clause-taken
returns-in-Some-clause-taken g t c =
    let ts = c.self.inside.twigs.items in
    let names : c.args.names ≡ c.in-Some.name.now ∷ c.next.new.self = search rules in
    let at : IsIndexOf (c.in-Some.name.now ∷ []) (under_names (twigs_of ts)) c.unwrap-index.result = search rules in
    λ p. c.swap-in-Some.ensures.taken p ∙ names_found c.args.self.now c.self.inside.value ts c.self.invariant.0 c.self.view_is c.args.names c.next.new.self
    c.in-Some.name.now
    c.unwrap-index.result c.index_mut.result.now names at c.index_mut.ensures.value p

pub returns-in-Some-clause-within : goal.returns-in-Some-clause-within
returns-in-Some-clause-within g t c =
    taken_within c.args.names c.args.self.now c.swap-in-Some.new.other (returns-in-Some-clause-taken g t c)
    (subst (IsShallow 0) c.self.view_is c.self.invariant.2)
