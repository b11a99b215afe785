use Rattle.std.proofs.Common.{arith, ◌≡◌, ◌∷◌, [], ◌+◌, ◌∙◌, ℕ, ap, sym, length, drop}
use Rattle.cfdp_pdus.specs.Canonical.{location}
use Rattle.cfdp_pdus.specs.BufferParts.{with_octets_at}
use Rattle.cfdp_pdus.proofs.BufferParts.{then}
use Rattle.cfdp_pdus.proofs.WriteSteps.{location_len}
use Rattle.cfdp_transactions.proofs.finished_in_buffer.put_fault.Goals as goal

pub returns-in-Some-clause-written : goal.returns-in-Some-clause-written
returns-in-Some-clause-written c =
    let len = c.args.id_len in
    let octets = drop 2 (location len c.in-Some.entity) in
    let same : length octets ≡ len = omega (arith, location_len len c.in-Some.entity) in
    rw c.in-Some.is
    (then c.args.out.now c.put_octets.new.out c.put_number.new.out (6 ∷ length octets ∷ []) octets c.args.at (c.args.at + 2) (omega (arith, c.requires.room))
    (c.put_octets.ensures ∙ ap (λ (n : ℕ). with_octets_at c.args.out.now c.args.at (6 ∷ n ∷ [])) (sym same))
    (rw (← c.from-len.ensures) c.put_number.ensures) (omega arith))

pub returns-in-Some-clause-end : goal.returns-in-Some-clause-end
returns-in-Some-clause-end c = rw c.in-Some.is (omega (arith, location_len c.args.id_len c.in-Some.entity, c.from-len.ensures))
