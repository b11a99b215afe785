use Rattle.std.proofs.Common.{◌≡◌, true, length, ◌∙◌, ap, subst, ◌++◌, drop, arith, length-append}
use Rattle.cfdp_paths.specs.Paths.{names_of, IsPath, is_at_or_below, rebased}
use Rattle.cfdp_paths.proofs.Below.{IsPath-rebased, length-at_or_below, rebased_depth}
use Rattle.cfdp_paths.proofs.Separators.{following, rebased-names_of}
use Rattle.cfdp_paths.proofs.paths.Path.rebased.Goals as goal

pub overflow_sub-depth : goal.overflow_sub-depth
overflow_sub-depth c =
    let short = length-at_or_below c.args.self.now c.args.from.now c.requires.below in
    let own = c.self.invariant.1 ∙ ap length c.self.view_is in let from = c.from.invariant.1 ∙ ap length c.from.view_is in
    omega (arith, short, own, from)

pub split_at-requires : goal.split_at-requires
split_at-requires c =
    let below : is_at_or_below (names_of c.self.inside.octets.items) (names_of c.from.inside.octets.items) ≡ true =
    rw (c.self.view_is, c.from.view_is) c.requires.below in
    let long = ap length (following c.self.inside.octets.items c.from.inside.octets.items below).0 in
    let same = ap length c.deref.ensures.value in
    let h = c.len.ensures in
    omega (arith, length-append c.from.inside.octets.items (drop (length c.from.inside.octets.items) c.self.inside.octets.items))

made : (c : goal.In_ok-extend_from_slice-2) → names_of c.extend_from_slice-2.new.self.items ≡ rebased c.args.from.now c.args.to.now c.args.self.now
made c =
    let below : is_at_or_below (names_of c.self.inside.octets.items) (names_of c.from.inside.octets.items) ≡ true =
    rw (c.self.view_is, c.from.view_is) c.requires.below in
    let long : c.len.result ≡ length c.from.inside.octets.items = let h = c.len.ensures in omega arith in
    let octets : c.extend_from_slice-2.new.self.items ≡ c.to.inside.octets.items ++ drop (length c.from.inside.octets.items) c.self.inside.octets.items =
    c.in_ok-extend_from_slice-2.ensures.items
    ∙ ap (λ o. o ++ c.split_at.result.1.now) (c.in_ok-extend_from_slice.ensures.items ∙ ap (λ o. o ++ c.deref-2.result.now) c.in_ok-octets.ensures.items
    ∙ c.deref-2.ensures.value)
    ∙ ap (λ o. c.to.inside.octets.items ++ o) (c.split_at.ensures.back ∙ ap (drop c.len.result) c.deref.ensures.value
    ∙ ap (λ n. drop n c.self.inside.octets.items) long) in
    rw (← c.self.view_is, ← c.from.view_is, ← c.to.view_is) (ap names_of octets
    ∙ rebased-names_of c.self.inside.octets.items c.from.inside.octets.items c.to.inside.octets.items below)

pub invariant_of-result : goal.invariant_of-result
invariant_of-result c =
    let short = length-at_or_below c.args.self.now c.args.from.now c.requires.below in
    rw (made c) (
      IsPath-rebased c.args.from.now c.args.to.now c.args.self.now c.requires.room short (subst IsPath c.to.view_is c.to.invariant.0)
          (subst IsPath c.self.view_is c.self.invariant.0),
      rebased_depth c.self.inside.depth c.to.inside.depth c.from.inside.depth c.args.self.now c.args.to.now c.args.from.now short (c.self.invariant.1
          ∙ ap length c.self.view_is) (c.to.invariant.1 ∙ ap length c.to.view_is) (c.from.invariant.1 ∙ ap length c.from.view_is),
    )

pub returns : goal.returns
returns c = made c
