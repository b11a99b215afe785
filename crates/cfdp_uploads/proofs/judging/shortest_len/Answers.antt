use Rattle.std.proofs.Common.{ℕ, ◌^◌, ◌≤◌}
use Rattle.cfdp_uploads.proofs.Numbers.{fits_by_shift, above_by_shift}
use Rattle.std.proofs.Common.{below_more}
use Rattle.cfdp_uploads.proofs.judging.shortest_len.Goals as goal

pub returns-then-number-len-eq0-clause-fits : goal.returns-then-number-len-eq0-clause-fits
returns-then-number-len-eq0-clause-fits c = fits_by_shift c.loop-len.len c.args.number c.if-number-len-eq0.true

pub loop-len-preserved : goal.loop-len-preserved
loop-len-preserved c =
    let more = below_more (λ (less : ℕ). 1 ≤ less → 256 ^ less ≤ c.args.number) c.loop-len.len
    (λ less lt low. c.loop-len.invariant less low lt)
    (λ low. above_by_shift c.loop-len.len c.args.number c.if-number-len-eq0.false) in
    λ less low lt. more less lt low
