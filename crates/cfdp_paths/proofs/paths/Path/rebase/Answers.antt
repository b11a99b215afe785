use Rattle.std.proofs.Common.{◌≡◌, true, length, sym, ◌∙◌, ap, subst, ◌++◌, drop, arith, length-append}
use Rattle.cfdp_paths.specs.Paths.{Path, names_of, joined, IsPath, is_at_or_below, rebased}
use Rattle.cfdp_paths.proofs.Below.{IsPath-rebased, length-at_or_below, rebased_depth}
use Rattle.cfdp_paths.proofs.Separators.{following, length-joined, rebased-names_of}
use Rattle.cfdp_paths.proofs.paths.Path.rebase.Goals as goal

pub replace_front-requires-clause-within : goal.replace_front-requires-clause-within
replace_front-requires-clause-within c =
    let below : is_at_or_below (names_of c.self.inside.octets.items) (names_of c.from.inside.octets.items) ≡ true =
    rw (c.self.view_is, c.from.view_is) c.requires.below in
    let long = ap length (following c.self.inside.octets.items c.from.inside.octets.items below).0 in
    omega (
      arith,
      c.len.ensures,
      c.from.inside.octets.ok.0,
      long,
      length-append c.from.inside.octets.items
          (drop (length c.from.inside.octets.items) c.self.inside.octets.items),
    )

pub replace_front-requires-clause-short : goal.replace_front-requires-clause-short
replace_front-requires-clause-short c =
    let to = ap length c.deref.ensures.value ∙ sym (length-joined c.to.inside.octets.items) ∙ ap (λ (p : Path). length (joined p)) c.to.view_is in
    let from = sym (length-joined c.from.inside.octets.items) ∙ ap (λ (p : Path). length (joined p)) c.from.view_is in
    omega (arith, to, from, c.len.ensures, c.from.inside.octets.ok.0, c.requires.short)

made : (c : goal.After-self-1) → names_of c.replace_front.new.octets.items ≡ rebased c.args.from.now c.args.to.now c.args.self.now
made c =
    let below : is_at_or_below (names_of c.self.inside.octets.items) (names_of c.from.inside.octets.items) ≡ true =
    rw (c.self.view_is, c.from.view_is) c.requires.below in
    let long : c.len.result ≡ length c.from.inside.octets.items = omega (arith, c.len.ensures, c.from.inside.octets.ok.0) in
    let octets : c.replace_front.new.octets.items ≡ c.to.inside.octets.items ++ drop (length c.from.inside.octets.items) c.self.inside.octets.items =
    c.replace_front.ensures ∙ ap (λ o. o ++ drop c.len.result c.self.inside.octets.items) c.deref.ensures.value
    ∙ ap (λ n. c.to.inside.octets.items ++ drop n c.self.inside.octets.items) long in
    rw (← c.self.view_is, ← c.from.view_is, ← c.to.view_is) (ap names_of octets
    ∙ rebased-names_of c.self.inside.octets.items c.from.inside.octets.items c.to.inside.octets.items below)

pub overflow_sub-self : goal.overflow_sub-self
overflow_sub-self c =
    let short = length-at_or_below c.args.self.now c.args.from.now c.requires.below in
    let own = c.self.invariant.1 ∙ ap length c.self.view_is in let from = c.from.invariant.1 ∙ ap length c.from.view_is in
    omega (arith, short, own, from)

pub invariant_of-self : goal.invariant_of-self
invariant_of-self c =
    let short = length-at_or_below c.args.self.now c.args.from.now c.requires.below in
    rw (made c) (
      IsPath-rebased c.args.from.now c.args.to.now c.args.self.now c.requires.room short (subst IsPath c.to.view_is c.to.invariant.0)
          (subst IsPath c.self.view_is c.self.invariant.0),
      rebased_depth c.self.inside.depth c.to.inside.depth c.from.inside.depth c.args.self.now c.args.to.now c.args.from.now short (c.self.invariant.1
          ∙ ap length c.self.view_is) (c.to.invariant.1 ∙ ap length c.to.view_is) (c.from.invariant.1 ∙ ap length c.from.view_is),
    )

pub returns : goal.returns
returns c = made c
