use Rattle.std.proofs.Common.{rules, arith, ◌≡◌, ◌+◌, ◌-◌, ◌*◌, ◌≤◌, ◌∷◌, [], ◌++◌, ℕ, List, length, ap, ◌∙◌, false}
use Rattle.std.specs.List.{flat_map}
use Rattle.cfdp_pdus.specs.Bits.{one_if}
use Rattle.cfdp_pdus.specs.Canonical.{fault_location, finished_field, response_field}
use Rattle.cfdp_pdus.specs.BufferParts.{with_octets_at}
use Rattle.cfdp_pdus.specs.Values.{FinishedFields}
use Rattle.cfdp_pdus.proofs.CanonicalSteps.{finished_short}
use Rattle.cfdp_pdus.proofs.BufferParts.{then}
use Rattle.cfdp_pdus.proofs.WriteSteps.{finished_len, pdu_len}
use Rattle.cfdp_transactions.specs.code.FinishedInBuffer.{answered_with}
use Rattle.cfdp_transactions.proofs.FinishedPdus.PutBefore.{header_before}
use Rattle.cfdp_transactions.proofs.FinishedPdus.ResponsesPut.{all_short}
use Rattle.cfdp_transactions.proofs.finished_in_buffer.fill_finished.Goals as goal

pub put_octets-requires : goal.put_octets-requires
put_octets-requires c =
    let o = answered_with c.args.requests.now c.args.performed c.args.outcome.now in
    omega (
      arith,
      pdu_len false o.header (finished_field o.header o.finished),
      finished_len o.header o.finished,
      c.requires.room,
      c.header_len-at.ensures,
    )

pub put_responses-responses_end-requires-clause-short : goal.put_responses-responses_end-requires-clause-short
put_responses-responses_end-requires-clause-short c =
    let o = answered_with c.args.requests.now c.args.performed c.args.outcome.now in
    all_short o.header o.finished c.requires.writable.fits

pub put_responses-responses_end-requires-clause-room : goal.put_responses-responses_end-requires-clause-room
put_responses-responses_end-requires-clause-room c =
    let o = answered_with c.args.requests.now c.args.performed c.args.outcome.now in
    omega (
      arith,
      pdu_len false o.header (finished_field o.header o.finished),
      finished_len o.header o.finished,
      c.requires.room,
      c.put_octets.auto.out,
      c.header_len-at.ensures,
    )

pub put_fault-end-requires-clause-room : goal.put_fault-end-requires-clause-room
put_fault-end-requires-clause-room c =
    let o = answered_with c.args.requests.now c.args.performed c.args.outcome.now in
    omega (
      arith,
      pdu_len false o.header (finished_field o.header o.finished),
      finished_len o.header o.finished,
      ap (λ (f : FinishedFields). length (fault_location o.header.id_len f.fault)) c.finished.view_is,
      c.requires.room,
      c.put_octets.auto.out,
      c.put_responses-responses_end.auto.out,
      c.put_responses-responses_end.ensures.end,
      c.header_len-at.ensures,
    )

pub put_header-requires-clause-room : goal.put_header-requires-clause-room
put_header-requires-clause-room c =
    let o = answered_with c.args.requests.now c.args.performed c.args.outcome.now in
    omega (
      arith,
      pdu_len false o.header (finished_field o.header o.finished),
      c.requires.room,
      c.put_octets.auto.out,
      c.put_responses-responses_end.auto.out,
      c.put_fault-end.auto.out,
    )

pub overflow_cast-end : goal.overflow_cast-end
overflow_cast-end c =
    let o = answered_with c.args.requests.now c.args.performed c.args.outcome.now in
    omega (
      arith,
      finished_len o.header o.finished,
      finished_short o.header o.finished c.requires.writable.fits,
      ap (λ (f : FinishedFields). length (fault_location o.header.id_len f.fault)) c.finished.view_is,
      c.put_responses-responses_end.ensures.end,
      c.put_fault-end.ensures.end,
    )

pub returns-clause-len : goal.returns-clause-len
returns-clause-len c =
    let o = answered_with c.args.requests.now c.args.performed c.args.outcome.now in
    omega (
      arith,
      pdu_len false o.header (finished_field o.header o.finished),
      finished_len o.header o.finished,
      ap (λ (f : FinishedFields). length (fault_location o.header.id_len f.fault)) c.finished.view_is,
      c.put_responses-responses_end.ensures.end,
      c.put_fault-end.ensures.end,
      c.header_len-at.ensures,
    )

pub returns-clause-written : goal.returns-clause-written
unfolding finished_field
returns-clause-written c =
    let o = answered_with c.args.requests.now c.args.performed c.args.outcome.now in
    let h = o.header in
    let field = finished_field h o.finished in
    let codes : 16 * c.finished.inside.condition + 4 * c.from-delivery.result + c.finished.inside.file_status
    ≡ 16 * o.finished.condition + 4 * one_if o.finished.incomplete + o.finished.file_status = search rules in
    let front : List ℕ = 5 ∷ (16 * o.finished.condition + 4 * one_if o.finished.incomplete + o.finished.file_status) ∷ [] in
    let responses = flat_map response_field o.finished.responses in
    let location = fault_location h.id_len o.finished.fault in
    let at = c.header_len-at.result in
    let buffer = c.args.out.now in
    let within : at ≤ length buffer = omega (arith, pdu_len false h field, c.requires.room, c.header_len-at.ensures) in
    let till_codes : c.put_octets.new.out ≡ with_octets_at buffer at front = c.put_octets.ensures ∙ ap
    (λ (n : ℕ). with_octets_at buffer at (5 ∷ n ∷ [])) codes in
    let till_responses : c.put_responses-responses_end.new.out ≡ with_octets_at buffer at (front ++ responses) =
    then buffer c.put_octets.new.out c.put_responses-responses_end.new.out front responses at (at + 2) within till_codes
    c.put_responses-responses_end.ensures.written (omega arith) in
    let till_location : c.put_fault-end.new.out ≡ with_octets_at buffer at field =
    then buffer c.put_responses-responses_end.new.out c.put_fault-end.new.out (front ++ responses) location at c.put_responses-responses_end.result
    within till_responses
    (c.put_fault-end.ensures.written
    ∙ ap (λ (f : FinishedFields). with_octets_at c.put_responses-responses_end.new.out c.put_responses-responses_end.result (fault_location h.id_len f.fault))
    c.finished.view_is)
    (omega (arith, c.put_responses-responses_end.ensures.end)) in
    let len : c.put_fault-end.result - at ≡ length field =
    omega (
      arith,
      finished_len h o.finished,
      ap (λ (f : FinishedFields). length (fault_location h.id_len f.fault)) c.finished.view_is,
      c.put_responses-responses_end.ensures.end,
      c.put_fault-end.ensures.end,
    ) in
    header_before h buffer c.put_fault-end.new.out c.put_header.new.out field (c.put_fault-end.result - at) at within till_location c.put_header.ensures len
    c.header_len-at.ensures
