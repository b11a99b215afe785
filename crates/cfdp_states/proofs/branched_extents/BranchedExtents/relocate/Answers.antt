use Rattle.std.proofs.Common.{rules, ◌≡◌, sym, ap, ◌∙◌, subst, refl, None, [], ◌∷◌, ◌++◌, length, is_some, arith}
use Rattle.std.specs.FinMap.{find, get}
use Rattle.cfdp_paths.specs.Paths.{path_cmp}
use Rattle.cfdp_branches.specs.Branches.{Branches, value_at, value_in}
use Rattle.cfdp_paths.proofs.Results.{on_err}
use Rattle.cfdp_states.specs.declared.extent.Extent.{Extent}
use Rattle.cfdp_states.specs.code.Branched.{IsDepthAt, IsTallied, values_map}
use Rattle.cfdp_states.specs.code.Sketching.{rehomed}
use Rattle.cfdp_states.proofs.Branched.{Exchanged, Taken, get-values, shallow_there, tallied_moved, tree_free, values_moved, values_same, values_stay}
use Rattle.cfdp_states.proofs.branched_extents.BranchedExtents.relocate.Goals as goal

pub invariant_of-self : goal.invariant_of-self
invariant_of-self c =
    subst (λ m. IsTallied m c.self.inside.count c.self.inside.used) (sym (values_same c.self.inside.root c.open.new.self c.in_err-open.ensures.err))
    c.self.invariant

pub returns-in_err-open-clause-err : goal.returns-in_err-open-clause-err
returns-in_err-open-clause-err c = on_err c.from_residual.result _ (values_same c.self.inside.root c.open.new.self c.in_err-open.ensures.err ∙ c.self.view_is)

pub invariant_of-self-then-is_none : goal.invariant_of-self-then-is_none
invariant_of-self-then-is_none c =
    subst (λ m. IsTallied m c.self.inside.count c.self.inside.used) (sym (values_same c.self.inside.root c.open.new.self c.in_ok-open.ensures.ok))
    c.self.invariant

pub returns-then-is_none-clause-ok : goal.returns-then-is_none-clause-ok
returns-then-is_none-clause-ok c =
    let root = c.self.inside.root in
    let p = c.args.from.now in
    let q = c.args.to.now in
    let m = values_map root in
    let none : IsDepthAt m q 0 = subst (λ n. IsDepthAt m q n) (omega arith) (subst (λ m. IsDepthAt m q c.levels.result) (sym c.self.view_is)
    c.levels.ensures.levels) in
    let nothing : c.at.result ≡ None = search rules in
    values_stay root c.open.new.self p q m refl none c.in_ok-open.ensures.ok
    (λ r. ap (λ ns. find path_cmp (ns ++ r) c.open.new.self) (sym c.names-2.ensures.names) ∙ c.at.ensures.absent nothing r)
    ∙ ap (rehomed p q) c.self.view_is

pub swap-requires-2-clause-shallow : goal.swap-requires-2-clause-shallow
swap-requires-2-clause-shallow c = λ r some.
    let root = c.self.inside.root in
    let p = c.args.from.now in
    let q = c.args.to.now in
    let there : value_at c.swap.new.other r ≡ get c.args.self.now (p ++ r) =
    ap value_in (c.swap.ensures.taken r) ∙ ap (λ ns. value_at c.open.new.self (ns ++ r)) c.names-3.ensures.names ∙ c.in_ok-open.ensures.ok (p ++ r)
    ∙ sym (get-values root (p ++ r)) ∙ ap (λ m. get m (p ++ r)) c.self.view_is in
    omega (arith, shallow_there c.args.self.now p q r c.requires (ap is_some (sym there) ∙ some), ap length c.names-4.ensures.names)

pub returns-clause-ok : goal.returns-clause-ok
returns-clause-ok c =
    let root = c.self.inside.root in
    let p = c.args.from.now in
    let q = c.args.to.now in
    let m = values_map root in
    let none : IsDepthAt m q 0 = subst (λ n. IsDepthAt m q n) (omega arith) (subst (λ m. IsDepthAt m q c.levels.result) (sym c.self.view_is)
    c.levels.ensures.levels) in
    let bare : Branches Extent = ([], None) ∷ [] in
    let exchanged : Exchanged p bare c.open.new.self c.swap.new.self =
    subst (λ os. Exchanged p os c.open.new.self c.swap.new.self) c.new-branch.ensures (subst (λ ns. Exchanged ns c.new-branch.result c.open.new.self
    c.swap.new.self) c.names-3.ensures.names c.swap.ensures.exchanged) in
    let taken : Taken p c.open.new.self c.swap.new.other = subst (λ ns. Taken ns c.open.new.self c.swap.new.other) c.names-3.ensures.names
    c.swap.ensures.taken in
    let put : Exchanged q c.swap.new.other c.swap.new.self c.swap-2.new.self = subst (λ ns. Exchanged ns c.swap.new.other c.swap.new.self c.swap-2.new.self)
    c.names-4.ensures.names c.swap-2.ensures.exchanged in
    values_same c.swap-2.new.self c.prune.new.self c.prune.ensures.values
    ∙ values_moved root c.open.new.self c.swap.new.self c.swap-2.new.self c.swap.new.other p q m refl none c.in_ok-open.ensures.ok exchanged taken put
    ∙ ap (rehomed p q) c.self.view_is

pub invariant_of-self-2 : goal.invariant_of-self-2
invariant_of-self-2 c =
    let root = c.self.inside.root in
    let p = c.args.from.now in
    let q = c.args.to.now in
    let m = values_map root in
    let none : IsDepthAt m q 0 = subst (λ n. IsDepthAt m q n) (omega arith) (subst (λ m. IsDepthAt m q c.levels.result) (sym c.self.view_is)
    c.levels.ensures.levels) in
    tallied_moved m (values_map c.prune.new.self) p q c.self.inside.count c.self.inside.used c.self.invariant
    (returns-clause-ok c ∙ ap (rehomed p q) (sym c.self.view_is)) (tree_free m q none)
