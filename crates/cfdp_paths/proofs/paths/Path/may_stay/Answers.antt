use Rattle.std.proofs.Common.{◌≡◌, true, length, nat_le, sym, ◌∙◌, ap, drop, arith, length-append}
use Rattle.std.proofs.lemmas.Bool.{and_parts, leb-true}
use Rattle.cfdp_paths.specs.Paths.{Path, names_of, joined, is_at_or_below}
use Rattle.cfdp_paths.proofs.Separators.{following, length-joined}
use Rattle.cfdp_paths.proofs.paths.Path.may_stay.Goals as goal

pub suits_front-requires : goal.suits_front-requires
suits_front-requires c =
    let below : is_at_or_below (names_of c.self.inside.octets.items) (names_of c.from.inside.octets.items) ≡ true =
    rw (c.self.view_is, c.from.view_is) c.requires in
    let long = ap length (following c.self.inside.octets.items c.from.inside.octets.items below).0 in
    omega (
      arith,
      c.len.ensures,
      c.self.inside.octets.ok.0,
      c.from.inside.octets.ok.0,
      long,
      length-append c.from.inside.octets.items (drop (length c.from.inside.octets.items) c.self.inside.octets.items),
    )

pub returns : goal.returns
returns c = λ stays.
    let short = leb-true (length c.deref.result.now) c.len.result
    (and_parts (nat_le (length c.deref.result.now) c.len.result) _ (sym c.suits_front.ensures ∙ stays)).0 in
    let to = ap length c.deref.ensures.value ∙ sym (length-joined c.to.inside.octets.items) ∙ ap (λ (p : Path). length (joined p)) c.to.view_is in
    let from = sym (length-joined c.from.inside.octets.items) ∙ ap (λ (p : Path). length (joined p)) c.from.view_is in
    omega (arith, short, to, from, c.len.ensures, c.from.inside.octets.ok.0)
