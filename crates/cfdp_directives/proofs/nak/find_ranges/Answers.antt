use Rattle.std.proofs.Common.{◌≡◌, ◌≤◌, ℕ, List, length, sym, ap, subst, arith}
use Rattle.cfdp_pdus.specs.First.{Start}
use Rattle.cfdp_pdus.proofs.SoundSteps.{octets_from, field_short}
use Rattle.cfdp_directives.proofs.nak.find_ranges.Goals as goal

pub ranges_in-requires : goal.ranges_in-requires
ranges_in-requires c =
    let octets = octets_from c.args.octets.now (λ i. omega (arith, c.type_inv.octets i)) in
    let short : length c.in_ok-start.start.field ≤ 65535 = field_short c.args.octets.now c.in_ok-start.start octets (sym c.in_ok-start.ensures) in
    let same : c.start.inside.field.now ≡ c.in_ok-start.start.field = ap (λ (s : Start). s.field) c.start.view_is in
    subst (λ (t : List ℕ). length t ≤ 65535) (sym same) short
