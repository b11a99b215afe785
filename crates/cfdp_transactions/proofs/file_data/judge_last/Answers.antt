use Rattle.std.proofs.Common.{◌≡◌, ◌∙◌, refl, sym}
use Rattle.std.specs.Prelude.{true, Some}
use Rattle.cfdp_transactions.specs.Entry.{Awaiting, is_live}
use Rattle.cfdp_transactions.specs.code.Books.{world_of}
use Rattle.cfdp_transactions.proofs.KeptTable.Answering.{live_at, entry_is}
use Rattle.cfdp_transactions.proofs.KeptTable.EofAnswers.{whole_entry}
use Rattle.cfdp_transactions.proofs.KeptTable.DataAnswers.{last_waits, last_whole}
use Rattle.cfdp_transactions.proofs.file_data.judge_last.Goals as goal

pub judge-requires-clause-live : goal.judge-requires-clause-live
judge-requires-clause-live g c =
    let s = g.S.Filestore.state c.args.store.now in
    let b = c.args.books.now in
    let k = c.args.index in
    let r = c.at-entry.result.now in
    let at = c.at-entry.ensures in
    let waits : r.phase ≡ Awaiting c.in-Awaiting.field-0 = cc in
    let live : is_live r.phase ≡ true = rw waits refl in
    live_at s b k r at live

pub returns-then-not-is_whole-clause-answer : goal.returns-then-not-is_whole-clause-answer
returns-then-not-is_whole-clause-answer g c = λ e there.
    let s = g.S.Filestore.state c.args.store.now in
    let b = c.args.books.now in
    let k = c.args.index in
    let r = c.at-entry.result.now in
    let at = c.at-entry.ensures in
    let waits : r.phase ≡ Awaiting c.in-Awaiting.field-0 = cc in
    let live : is_live r.phase ≡ true = rw waits refl in
    let same = entry_is s b k r at e there in
    let came : r.eof ≡ Some c.in-Some.eof = cc in
    let all = whole_entry s b c.requires.sound c.requires.booked k r at live c.in-Some.eof.size ∙ sym c.is_whole.ensures ∙ c.if-not-is_whole.true in
    last_waits (world_of s b) k e c.in-Awaiting.field-0 c.in-Some.eof (rw same waits) (rw same came) (rw same all)

pub returns-clause-answer : goal.returns-clause-answer
returns-clause-answer g c = λ e there.
    let s = g.S.Filestore.state c.args.store.now in
    let b = c.args.books.now in
    let k = c.args.index in
    let r = c.at-entry.result.now in
    let at = c.at-entry.ensures in
    let waits : r.phase ≡ Awaiting c.in-Awaiting.field-0 = cc in
    let live : is_live r.phase ≡ true = rw waits refl in
    let same = entry_is s b k r at e there in
    let came : r.eof ≡ Some c.in-Some.eof = cc in
    let all = whole_entry s b c.requires.sound c.requires.booked k r at live c.in-Some.eof.size ∙ sym c.is_whole.ensures ∙ c.if-not-is_whole.false in
    last_whole (world_of s b) k e c.in-Awaiting.field-0 c.in-Some.eof (rw same waits) (rw same came) (rw same all) ∙ c.judge.ensures.answer e there
