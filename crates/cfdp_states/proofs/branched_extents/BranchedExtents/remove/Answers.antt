use Rattle.std.proofs.Common.{◌≡◌, sym, ap, ◌∙◌, subst, None, Some, [], ◌∷◌, is_some, arith}
use Rattle.std.specs.FinMap.{get, remove}
use Rattle.cfdp_branches.specs.Branches.{Branches, has_branch}
use Rattle.cfdp_states.specs.declared.extent.Extent.{Extent}
use Rattle.cfdp_states.specs.code.Branched.{values_map}
use Rattle.cfdp_states.specs.code.Sketching.{weight_in}
use Rattle.cfdp_states.proofs.Branched.{Exchanged, Taken, has_at, nothing_removed, room_at, tallied_remove, values_removed, values_same, weight_in_used}
use Rattle.cfdp_states.proofs.branched_extents.BranchedExtents.remove.Goals as goal

pub returns-in_default : goal.returns-in_default
returns-in_default c = nothing_removed c.args.self.now c.args.path.now (sym c.get.ensures ∙ c.in_default.is)

pub swap-requires-clause-there : goal.swap-requires-clause-there
swap-requires-clause-there c =
    ap (has_branch c.self.inside.root) c.names.ensures.names
    ∙ has_at c.self.inside.root c.args.path.now (ap (λ m. is_some (get m c.args.path.now)) c.self.view_is ∙ ap is_some (sym c.get.ensures ∙ c.in-Some.is))

pub swap-requires-2-clause-there : goal.swap-requires-2-clause-there
swap-requires-2-clause-there c =
    let p = c.args.path.now in
    let bare : Branches Extent = ([], None) ∷ [] in
    ap (has_branch c.swap.new.self) c.names-2.ensures.names
    ∙ room_at p c.self.inside.root c.swap.new.self
    (subst (λ os. Exchanged p os c.self.inside.root c.swap.new.self) c.new-branch.ensures (subst (λ ns. Exchanged ns c.new-branch.result c.self.inside.root
    c.swap.new.self) c.names.ensures.names c.swap.ensures.exchanged))

pub overflow_sub-self : goal.overflow_sub-self
overflow_sub-self c =
    let m = values_map c.self.inside.root in
    let there : get m c.args.path.now ≡ Some c.in-Some.old = ap (λ m. get m c.args.path.now) c.self.view_is ∙ sym c.get.ensures ∙ c.in-Some.is in
    omega (
      arith,
      c.from.ensures,
      c.blocks-2.ensures.value,
      ap weight_in there,
      weight_in_used m c.args.path.now c.self.inside.count c.self.inside.used
          c.self.invariant,
    )

pub returns : goal.returns
returns c =
    let p = c.args.path.now in
    let root = c.self.inside.root in
    let exchanged : Exchanged p (([], None) ∷ []) root c.swap.new.self =
    subst (λ os. Exchanged p os root c.swap.new.self) c.new-branch.ensures (subst (λ ns. Exchanged ns c.new-branch.result root c.swap.new.self)
    c.names.ensures.names c.swap.ensures.exchanged) in
    let taken : Taken p root c.swap.new.other = subst (λ ns. Taken ns root c.swap.new.other) c.names.ensures.names c.swap.ensures.taken in
    let back : Exchanged p c.take_value.new.self c.swap.new.self c.swap-2.new.self =
    subst (λ ns. Exchanged ns c.take_value.new.self c.swap.new.self c.swap-2.new.self) c.names-2.ensures.names c.swap-2.ensures.exchanged in
    values_same c.swap-2.new.self c.prune.new.self c.prune.ensures.values
    ∙ values_removed root c.swap.new.self c.swap-2.new.self c.swap.new.other c.take_value.new.self p exchanged taken c.take_value.ensures.taken back
    ∙ ap (λ m. remove m p) c.self.view_is

pub invariant_of-self : goal.invariant_of-self
invariant_of-self c =
    let m = values_map c.self.inside.root in
    let p = c.args.path.now in
    let there : get m p ≡ Some c.in-Some.old = ap (λ m. get m p) c.self.view_is ∙ sym c.get.ensures ∙ c.in-Some.is in
    tallied_remove m (values_map c.prune.new.self) p c.self.inside.count c.self.inside.used _ c.self.invariant (returns c
    ∙ ap (λ m. remove m p) (sym c.self.view_is))
    (omega (arith, c.from.ensures, c.blocks-2.ensures.value, ap weight_in there, weight_in_used m p c.self.inside.count c.self.inside.used c.self.invariant))
