use Rattle.std.proofs.Common.{length, ap, arith}
use Rattle.cfdp_pdus.specs.Canonical.{fault_location}
use Rattle.cfdp_pdus.proofs.CanonicalSteps.{finished_short}
use Rattle.cfdp_pdus.proofs.WriteSteps.{finished_len}
use Rattle.cfdp_transactions.specs.declared.outcome.Outcome.{Outcome}
use Rattle.cfdp_transactions.specs.code.FinishedInBuffer.{answered_with}
use Rattle.cfdp_transactions.specs.code.TakenOutcome.{statuses_of}
use Rattle.cfdp_transactions.proofs.FinishedPdus.ResponsesPut.{answers_len}
use Rattle.cfdp_transactions.proofs.finished_in_buffer.field_len.Goals as goal

pub overflow_add-result : goal.overflow_add-result
overflow_add-result c =
    let requests = c.args.requests.now in
    let o = answered_with requests c.args.performed c.args.outcome.now in
    omega (
      arith,
      finished_len o.header o.finished,
      finished_short o.header o.finished c.requires.fits,
      answers_len requests (statuses_of c.args.performed requests),
      c.responses_len.ensures,
    )

pub overflow_add-result-2 : goal.overflow_add-result-2
overflow_add-result-2 c =
    let requests = c.args.requests.now in
    let o = answered_with requests c.args.performed c.args.outcome.now in
    omega (
      arith,
      finished_len o.header o.finished,
      finished_short o.header o.finished c.requires.fits,
      answers_len requests (statuses_of c.args.performed requests),
      ap (λ (o : Outcome). length (fault_location o.header.id_len o.finished.fault)) c.outcome.view_is,
      c.responses_len.ensures,
      c.fault_len-location.ensures.value,
    )

pub overflow_cast-result : goal.overflow_cast-result
overflow_cast-result c =
    let requests = c.args.requests.now in
    let o = answered_with requests c.args.performed c.args.outcome.now in
    omega (
      arith,
      finished_len o.header o.finished,
      finished_short o.header o.finished c.requires.fits,
      answers_len requests (statuses_of c.args.performed requests),
      ap (λ (o : Outcome). length (fault_location o.header.id_len o.finished.fault)) c.outcome.view_is,
      c.responses_len.ensures,
      c.fault_len-location.ensures.value,
    )

pub returns : goal.returns
returns c =
    let requests = c.args.requests.now in
    let o = answered_with requests c.args.performed c.args.outcome.now in
    omega (
      arith,
      finished_len o.header o.finished,
      finished_short o.header o.finished c.requires.fits,
      answers_len requests (statuses_of c.args.performed requests),
      ap (λ (o : Outcome). length (fault_location o.header.id_len o.finished.fault)) c.outcome.view_is,
      c.responses_len.ensures,
      c.fault_len-location.ensures.value,
    )
