use Rattle.std.proofs.Common.{◌≡◌, length, refl, sym, ap, subst, ◌∙◌}
use Rattle.std.specs.Prelude.{IsFalse}
use Rattle.cfdp_pdus.specs.BufferParts.{filled}
use Rattle.cfdp_pdus.specs.Values.{MetadataFields}
use Rattle.cfdp_transactions.specs.code.Books.{world_of}
use Rattle.cfdp_transactions.specs.Ending.{taken_out}
use Rattle.cfdp_transactions.specs.Entry.{is_live}
use Rattle.cfdp_transactions.specs.code.FinishedInBuffer.{answered_with}
use Rattle.cfdp_transactions.specs.Outcome.{outcome_of}
use Rattle.cfdp_transactions.specs.code.TableEntries.{entry_in}
use Rattle.cfdp_transactions.specs.Writable.{IsWritable, finished_octets}
use Rattle.cfdp_transactions.specs.declared.outcome.Outcome.{Outcome}
use Rattle.std.specs.Prelude.{Some}
use Rattle.cfdp_transactions.proofs.FinishedPdus.FinishedTaken.{issues_outcome, short_of_outcome}
use Rattle.cfdp_transactions.proofs.KeptTable.WorldOfTable.{table_entry_at}
use Rattle.cfdp_transactions.proofs.KeptTable.EntryTakenOut.{taken_answer, taken_booked}
use Rattle.cfdp_transactions.proofs.taken_outcome.take_finished.Goals as goal

pub put_finished-requires : goal.put_finished-requires
put_finished-requires g c =
    let s = g.S.Filestore.state c.args.store.now in
    let table_entry = c.at-entry.result.now in
    let over : IsFalse (is_live table_entry.phase) = sym (c.is_live.ensures ∙ ap is_live c.phase.ensures) ∙ c.if-is_live.false in
    let requests : c.deref.result.now ≡ table_entry.metadata.requests =
    c.deref.ensures.value ∙ ap (λ (m : MetadataFields). m.requests) (c.behind-entry.view_is ∙ c.metadata.ensures) in
    let performed : c.from-performed.result ≡ table_entry.performed = c.from-performed.ensures ∙ c.performed.ensures in
    let made : answered_with c.deref.result.now c.from-performed.result c.bare_outcome-outcome.result ≡ outcome_of (entry_in s.filestore table_entry) =
    rw (c.bare_outcome-outcome.ensures s.filestore, requests, performed) refl in
    subst IsWritable (sym made) (c.requires.writable (entry_in s.filestore table_entry)
    (table_entry_at s.filestore c.args.books.now.table c.args.index table_entry c.at-entry.ensures) over)

pub returns-in-Err-clause-err : goal.returns-in-Err-clause-err
returns-in-Err-clause-err g c =
    let s = g.S.Filestore.state c.args.store.now in
    let b = c.args.books.now in
    let W = world_of s b in
    let table_entry = c.at-entry.result.now in
    let over : IsFalse (is_live table_entry.phase) = sym (c.is_live.ensures ∙ ap is_live c.phase.ensures) ∙ c.if-is_live.false in
    let requests : c.deref.result.now ≡ table_entry.metadata.requests =
    c.deref.ensures.value ∙ ap (λ (m : MetadataFields). m.requests) (c.behind-entry.view_is ∙ c.metadata.ensures) in
    let performed : c.from-performed.result ≡ table_entry.performed = c.from-performed.ensures ∙ c.performed.ensures in
    let o = outcome_of (entry_in s.filestore table_entry) in
    let made : answered_with c.deref.result.now c.from-performed.result c.bare_outcome-outcome.result ≡ o =
    rw (c.bare_outcome-outcome.ensures s.filestore, requests, performed) refl in
    λ f there.
    short_of_outcome (taken_out W c.args.index (Some f)) W W _ o c.args.out.now c.put_finished.new.out c.in-Err.short
    (taken_answer s b c.requires.booked c.args.index table_entry c.at-entry.ensures over o refl f there)
    (c.in-Err.ensures.short ∙ ap (λ (x : Outcome). length (finished_octets x)) made) c.in-Err.ensures.less refl c.in-Err.ensures.unwritten

pub returns-clause-ok : goal.returns-clause-ok
returns-clause-ok g c = λ f there.
    let s = g.S.Filestore.state c.args.store.now in
    let b = c.args.books.now in
    let table_entry = c.at-entry.result.now in
    let over : IsFalse (is_live table_entry.phase) = sym (c.is_live.ensures ∙ ap is_live c.phase.ensures) ∙ c.if-is_live.false in
    let requests : c.deref.result.now ≡ table_entry.metadata.requests =
    c.deref.ensures.value ∙ ap (λ (m : MetadataFields). m.requests) (c.behind-entry.view_is ∙ c.metadata.ensures) in
    let performed : c.from-performed.result ≡ table_entry.performed = c.from-performed.ensures ∙ c.performed.ensures in
    let o = outcome_of (entry_in s.filestore table_entry) in
    let made : answered_with c.deref.result.now c.from-performed.result c.bare_outcome-outcome.result ≡ o =
    rw (c.bare_outcome-outcome.ensures s.filestore, requests, performed) refl in
    let condition = ap (λ (x : Outcome). x.finished.condition) (c.outcome.view_is ∙ c.bare_outcome-outcome.ensures s.filestore) in
    rw c.forget.ensures (issues_outcome (taken_out (world_of s b) c.args.index (Some f)) _ o c.args.out.now c.put_finished.new.out _ c.in-Ok.len
    (taken_answer s b c.requires.booked c.args.index table_entry c.at-entry.ensures over o refl f there)
    condition
    (c.in-Ok.ensures.len ∙ ap (λ (x : Outcome). length (finished_octets x)) made)
    (c.in-Ok.ensures.written ∙ ap (λ (x : Outcome). filled (finished_octets x) c.args.out.now) made) c.in-Ok.ensures.fits)

pub returns-clause-booked : goal.returns-clause-booked
returns-clause-booked g c =
    let s = g.S.Filestore.state c.args.store.now in
    let over : IsFalse (is_live c.at-entry.result.now.phase) = sym (c.is_live.ensures ∙ ap is_live c.phase.ensures) ∙ c.if-is_live.false in
    rw c.forget.ensures (taken_booked s c.args.books.now c.requires.booked c.args.index c.at-entry.result.now c.at-entry.ensures over)
