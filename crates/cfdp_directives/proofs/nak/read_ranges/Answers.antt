use Rattle.std.proofs.Common.{refl, ap, ◌∙◌, ◌≡◌, ◌*◌, ℕ, List, drop}
use Rattle.std.specs.Prelude.{slice_set}
use Rattle.std.proofs.lemmas.List.{take_rest}
use Rattle.cfdp_directives.specs.Reading.{pair_len, range_at, ranges_at}
use Rattle.cfdp_directives.proofs.Ranges.{ranges_read}
use Rattle.cfdp_directives.proofs.nak.read_ranges.Goals as goal

pub loop-n-init : goal.loop-n-init
unfolding ranges_at
loop-n-init c = refl

pub loop-n-preserved : goal.loop-n-preserved
loop-n-preserved c =
    let large = c.args.large in
    let octets = c.args.octets.now in
    let read : c.read_range.result ≡ range_at large (drop (pair_len large * c.loop-n.n) octets) =
    c.read_range.ensures
    ∙ ap (range_at large) (take_rest octets (c.range_len-range_len.result * c.loop-n.n))
    ∙ ap (λ (k : ℕ). range_at large (drop (k * c.loop-n.n) octets)) c.range_len-range_len.ensures in
    ap (λ (t : List (ℕ × ℕ)). slice_set t c.loop-n.n c.read_range.result) c.loop-n.invariant
    ∙ ranges_read large c.loop-n.n octets c.args.ranges.now c.read_range.result c.loop-n-test.true read
