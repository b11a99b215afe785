use Rattle.std.proofs.Common.{◌≡◌, ◌++◌, Option, Some, List, ℕ, arith, ap, ◌∙◌}
use Rattle.cfdp_tlv.specs.Field.{lv}
use Rattle.cfdp_tlv.specs.Grammar.{names_as_lv}
use Rattle.cfdp_pdus.specs.BufferParts.{with_octets_at}
use Rattle.cfdp_pdus.proofs.BufferParts.{then}
use Rattle.cfdp_transactions.proofs.finished_in_buffer.put_names.Goals as goal

pub returns-in-Some-clause-written : goal.returns-in-Some-clause-written
returns-in-Some-clause-written c =
    let r = c.args.request.now in
    let second : Some c.in-Some.second.now ≡ r.second = rw c.in-Some.is at c.second.ensures.value in
    let written : c.put_lv.new.out ≡ with_octets_at c.args.out.now c.args.at (lv c.first.result.now ++ lv c.in-Some.second.now) =
    then c.args.out.now c.put_lv-end.new.out c.put_lv.new.out (lv c.first.result.now) (lv c.in-Some.second.now) c.args.at c.put_lv-end.result
    (omega (arith, c.requires.room)) c.put_lv-end.ensures.written c.put_lv.ensures.written (omega (arith, c.put_lv-end.ensures.end)) in
    written
    ∙ ap (λ (name : List ℕ). with_octets_at c.args.out.now c.args.at (names_as_lv name (Some c.in-Some.second.now))) c.first.ensures.value
    ∙ ap (λ (name : Option (List ℕ)). with_octets_at c.args.out.now c.args.at (names_as_lv r.first name)) second
