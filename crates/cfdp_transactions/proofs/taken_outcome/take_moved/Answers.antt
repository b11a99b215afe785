use Rattle.std.proofs.Common.{◌≡◌, refl, sym, ap, ◌∙◌}
use Rattle.std.specs.Prelude.{IsFalse}
use Rattle.cfdp_transactions.specs.Entry.{is_live}
use Rattle.cfdp_transactions.specs.Outcome.{outcome_of}
use Rattle.cfdp_transactions.specs.code.TableEntries.{TableEntryFields, entry_in}
use Rattle.cfdp_transactions.proofs.KeptTable.EntryTakenOut.{taken_answer, taken_booked}
use Rattle.cfdp_transactions.proofs.taken_outcome.take_moved.Goals as goal

pub returns-clause-answer : goal.returns-clause-answer
returns-clause-answer g c =
    let s = g.S.Filestore.state c.args.store.now in
    let table_entry = c.at-entry.result.now in
    let over : IsFalse (is_live table_entry.phase) = sym (c.is_live.ensures ∙ ap is_live c.phase.ensures) ∙ c.if-is_live.false in
    let here = c.at-entry.ensures in
    let taken = c.take_out.ensures.taken in
    let same : c.take_out.result ≡ table_entry = cc in
    let requests : c.into_requests-requests.result.items ≡ table_entry.metadata.requests = c.into_requests-requests.ensures
    ∙ ap (λ (r : TableEntryFields). r.metadata.requests) same in
    let performed : c.from-performed.result ≡ table_entry.performed = c.from-performed.ensures ∙ c.performed.ensures in
    let made : c.with_responses.result ≡ outcome_of (entry_in s.filestore table_entry) =
    c.with_responses.ensures ∙ rw (c.bare_outcome-outcome.ensures s.filestore, c.responses_to.ensures, requests, performed) refl in
    rw c.take_out.ensures.rest (taken_answer s c.args.books.now c.requires.booked c.args.index table_entry c.at-entry.ensures over c.with_responses.result made)

pub returns-clause-booked : goal.returns-clause-booked
returns-clause-booked g c =
    let s = g.S.Filestore.state c.args.store.now in
    let over : IsFalse (is_live c.at-entry.result.now.phase) = sym (c.is_live.ensures ∙ ap is_live c.phase.ensures) ∙ c.if-is_live.false in
    rw c.take_out.ensures.rest (taken_booked s c.args.books.now c.requires.booked c.args.index c.at-entry.result.now c.at-entry.ensures over)
