use Rattle.std.proofs.Common.{◌≡◌, true, sym, ◌∙◌, ap, Some, ◌+◌, ◌-◌, length, min, arith}
use Rattle.cfdp_paths.specs.Paths.{is_at_or_below, rebased}
use Rattle.cfdp_paths.proofs.Below.{length-at_or_below}
use Rattle.cfdp_states.proofs.SparseLists.{front_rebased, front_below, origin_at}
use Rattle.cfdp_states.proofs.origins.origin.Goals as goal

pub rebased-requires-clause-below : goal.rebased-requires-clause-below
rebased-requires-clause-below c =
    let at : is_at_or_below c.args.path c.args.to.now ≡ true = sym c.is_at_or_below.ensures ∙ c.if-is_at_or_below.true in
    let count = min (length c.args.path) (8 + c.depth.result - c.depth-then-is_at_or_below.result) in
    let le = length-at_or_below c.args.path c.args.to.now at in
    ap (λ x. is_at_or_below x c.args.to.now) c.in_ok-front.ensures ∙ front_below c.args.path c.args.to.now count at (omega (arith, le))

pub returns-then-is_at_or_below : goal.returns-then-is_at_or_below
returns-then-is_at_or_below c =
    let at : is_at_or_below c.args.path c.args.to.now ≡ true = sym c.is_at_or_below.ensures ∙ c.if-is_at_or_below.true in
    let count = min (length c.args.path) (8 + c.depth.result - c.depth-then-is_at_or_below.result) in
    ap Some (c.in_ok-rebased.ensures ∙ ap (rebased c.args.to.now c.args.from.now) c.in_ok-front.ensures
    ∙ front_rebased c.args.from.now c.args.to.now c.args.path count (omega arith) (omega arith))
    ∙ sym (origin_at c.args.from.now c.args.to.now c.args.path at)
