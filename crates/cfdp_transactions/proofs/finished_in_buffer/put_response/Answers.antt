use Rattle.std.proofs.Common.{arith, ◌≡◌, ◌+◌, ◌-◌, ◌∷◌, [], ◌++◌, length}
use Rattle.std.proofs.lemmas.List.{length-append}
use Rattle.cfdp_status.specs.Codes.{octet_of}
use Rattle.cfdp_tlv.specs.Grammar.{names_as_lv, response_octets}
use Rattle.cfdp_pdus.specs.BufferParts.{with_octets_at}
use Rattle.cfdp_pdus.proofs.BufferParts.{then}
use Rattle.cfdp_transactions.specs.Outcome.{answered}
use Rattle.cfdp_transactions.proofs.FinishedPdus.PutBefore.{before}
use Rattle.cfdp_transactions.proofs.finished_in_buffer.put_response.Goals as goal

pub returns-clause-written : goal.returns-clause-written
returns-clause-written c =
    let out = c.args.out.now in
    let at = c.args.at in
    let r = c.args.request.now in
    let names = names_as_lv r.first r.second in
    let octets = response_octets (answered r c.args.status) in
    let head = 1 ∷ length octets ∷ octet_of c.args.status ∷ [] in
    let end : c.put_names-end.result ≡ at + 3 + length names = c.put_names-end.ensures.end in
    let len : c.put_names-end.result - at - 1 ≡ length octets = omega (arith, end, length-append names (0 ∷ [])) in
    let is_head : c.put_octets.new.out ≡ with_octets_at c.put_names-end.new.out at head = rw (← len, ← c.octet.ensures.value) c.put_octets.ensures in
    let till_names : c.put_octets.new.out ≡ with_octets_at out at (head ++ names) =
    before out c.put_names-end.new.out c.put_octets.new.out head names at (at + 3)
    (omega (arith, c.requires.room, length-append names (0 ∷ []))) c.put_names-end.ensures.written is_head (omega arith) in
    then out c.put_octets.new.out c.put_octets-2.new.out (head ++ names) (0 ∷ []) at c.put_names-end.result (omega (arith, c.requires.room))
    till_names c.put_octets-2.ensures (omega (arith, end))
