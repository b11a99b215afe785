use Rattle.std.proofs.Common.{◌≡◌, sym, ap, ◌∙◌, subst, refl, true≢false, is_some, Option, Some, None, Bool, true, false, not, cond, ◌+◌, ◌≤◌, ◌^◌, arith}
use mir.Val.{bool_byte}
use Rattle.cfdp_states.specs.declared.extent.Extent.{Extent}
use Rattle.std.specs.FinMap.{get, insert}
use Rattle.cfdp_branches.proofs.Changing.{Puts}
use Rattle.cfdp_branches.specs.Branches.{has_branch, value_at}
use Rattle.cfdp_paths.proofs.Results.{on_err}
use Rattle.cfdp_states.specs.code.Branched.{IsTallied, values_map}
use Rattle.cfdp_states.specs.code.Sketching.{total_blocks, weight_in}
use Rattle.cfdp_states.proofs.Branched.{get-values, has_at, one_more, tallied_put, used_is, values_put, values_same, weight_in_used}
use Rattle.cfdp_states.proofs.branched_extents.BranchedExtents.put.Goals as goal
use Rattle.cfdp_states.proofs.branched_extents.BranchedExtents.put.Goals.{else-self-eq-MOST_PATHS-via-then-self-eq-MOST_PATHS+else-is_none, else-self-eq-MOST_PATHS-via-else-self-eq-MOST_PATHS}

byte_of : (b : Bool) → bool_byte b ≡ cond b 1 0
byte_of true = refl
byte_of false = refl

known : (o : Option Extent) → is_some o ≡ true → cond (is_some o) 0 1 ≤ 0
known None some = absurd (true≢false (sym some))
known (Some e) some = omega arith

at_most_one : (o : Option Extent) → cond (is_some o) 0 1 ≤ 1
at_most_one None = omega arith
at_most_one (Some e) = omega arith

pub invariant_of-self : goal.invariant_of-self
invariant_of-self c =
    subst (λ m. IsTallied m c.self.inside.count c.self.inside.used) (sym (values_same c.self.inside.root c.open.new.self c.in_err-old.ensures.err))
    c.self.invariant

pub returns-in_err-old-clause-err : goal.returns-in_err-old-clause-err
returns-in_err-old-clause-err c = on_err c.from_residual.result _ (values_same c.self.inside.root c.open.new.self c.in_err-old.ensures.err ∙ c.self.view_is)

pub returns-in_err-old-clause-present : goal.returns-in_err-old-clause-present
returns-in_err-old-clause-present c = λ there.
    absurd (true≢false (sym (c.in_err-old.ensures.present (ap (has_branch c.self.inside.root) c.names.ensures.names
    ∙ has_at c.self.inside.root c.args.path.now (ap (λ m. is_some (get m c.args.path.now)) c.self.view_is ∙ there)))))

pub overflow_sub-self : goal.overflow_sub-self
overflow_sub-self c =
    let root = c.self.inside.root in
    let p = c.args.path.now in
    let e = c.args.extent in
    let m = values_map root in
    let old : c.in_ok-old.old ≡ get m p = c.in_ok-old.ensures.old ∙ ap (value_at root) c.names.ensures.names ∙ sym (get-values root p) in
    let total : c.blocks-2.result ≡ c.self.inside.used = c.blocks-2.ensures.value ∙ ap total_blocks (sym c.self.view_is)
    ∙ used_is m c.self.inside.count c.self.inside.used c.self.invariant in
    omega (arith, c.from-3.ensures, c.weigh.ensures.value, ap weight_in old, total, weight_in_used m p c.self.inside.count c.self.inside.used c.self.invariant)

pub invariant_of-self-2 : goal.invariant_of-self-2
invariant_of-self-2 c =
    let root = c.self.inside.root in
    let p = c.args.path.now in
    let e = c.args.extent in
    let m = values_map root in
    let old : c.in_ok-old.old ≡ get m p = c.in_ok-old.ensures.old ∙ ap (value_at root) c.names.ensures.names ∙ sym (get-values root p) in
    let total : c.blocks-2.result ≡ c.self.inside.used = c.blocks-2.ensures.value ∙ ap total_blocks (sym c.self.view_is)
    ∙ used_is m c.self.inside.count c.self.inside.used c.self.invariant in
    let more : c.from-2.result ≡ cond (is_some (get m p)) 0 1 =
    one_more (get m p) c.is_none-2.result c.from-2.result (ap is_some (sym old) ∙ c.is_none-2.ensures) (c.from-2.ensures ∙ byte_of c.is_none-2.result) in
    let few : c.self.inside.count + c.from-2.result ≤ 2 ^ 62 =
    elim c.else-self-eq-MOST_PATHS.branch [
      | else-self-eq-MOST_PATHS-via-then-self-eq-MOST_PATHS+else-is_none w ↦ omega (
        arith,
        c.self.invariant.bounded,
        more,
        w.if-self-eq-MOST_PATHS.true,
        known (get m p) (ap (λ m. is_some (get m p)) c.self.view_is ∙ ap is_some (sym w.get.ensures) ∙ w.is_none.ensures ∙ ap not w.if-is_none.false),
      )
      | else-self-eq-MOST_PATHS-via-else-self-eq-MOST_PATHS w ↦ omega (
        arith,
        c.self.invariant.bounded,
        more,
        w.if-self-eq-MOST_PATHS.false,
        at_most_one (get
            m p),
      )
    ] in
    tallied_put m (values_map c.open.new.self) p e c.self.inside.count c.self.inside.used (c.self.inside.count + c.from-2.result) _ c.self.invariant
    (values_put root c.open.new.self p e (subst (λ ns. Puts (Some e) ns root c.open.new.self) c.names.ensures.names c.in_ok-old.ensures.ok))
    (omega (arith, c.blocks-3.ensures.value, c.blocks-3.ensures.within)) (omega (arith, more)) few
    (omega (
      arith,
      c.from-3.ensures,
      c.from.ensures,
      c.weigh.ensures.value,
      ap weight_in old,
      total,
      c.blocks-3.ensures.value,
      weight_in_used m p c.self.inside.count c.self.inside.used c.self.invariant,
    ))

pub returns-clause-ok : goal.returns-clause-ok
returns-clause-ok c =
    values_put c.self.inside.root c.open.new.self c.args.path.now c.args.extent
    (subst (λ ns. Puts (Some c.args.extent) ns c.self.inside.root c.open.new.self) c.names.ensures.names c.in_ok-old.ensures.ok)
    ∙ ap (λ m. insert m c.args.path.now c.args.extent) c.self.view_is
