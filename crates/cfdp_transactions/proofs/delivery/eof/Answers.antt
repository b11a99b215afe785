use Rattle.std.proofs.Common.{◌≡◌, ◌∙◌, length, refl, sym, true, false, arith}
use Rattle.std.proofs.lemmas.Bool.{eqb-true}
use Rattle.std.specs.Prelude.{◌==◌}
use Rattle.std.proofs.lemmas.Bool.Decides.{nat_tests}
use Rattle.std.proofs.lemmas.List.{nil_from_length}
use Rattle.cfdp_transactions.specs.Entry.{is_live, is_receiving, has_file}
use Rattle.cfdp_transactions.specs.code.TableEntries.{entry_in}
use Rattle.cfdp_transactions.specs.code.Books.{world_of}
use Rattle.cfdp_transactions.proofs.KeptTable.Answering.{live_at, entry_is, carry}
use Rattle.cfdp_transactions.proofs.KeptTable.EntryChanged.{slot_below}
use Rattle.cfdp_transactions.proofs.KeptTable.EofAnswers.{eof_fault, eof_again, eof_first, eof_bare, eof_no_file, eof_size, eof_waits, eof_whole, is_wrong_size, received_size, whole_entry}
use Rattle.cfdp_transactions.proofs.delivery.eof.Goals as goal

pub end-requires-clause-live : goal.end-requires-clause-live
end-requires-clause-live g c =
    let s = g.S.Filestore.state c.args.store.now in
    let b = c.args.books.now in
    let k = c.args.index in
    let r = c.at-entry.result.now in
    let at = c.at-entry.ensures in
    let live : is_live r.phase ≡ true = cc in
    live_at s b k r at live

pub returns-then-eof-ne-NO_ERROR-clause-answer : goal.returns-then-eof-ne-NO_ERROR-clause-answer
returns-then-eof-ne-NO_ERROR-clause-answer g c = λ e there.
    let s = g.S.Filestore.state c.args.store.now in
    let b = c.args.books.now in
    let k = c.args.index in
    let r = c.at-entry.result.now in
    let at = c.at-entry.ensures in
    let live : is_live r.phase ≡ true = cc in
    let same = entry_is s b k r at e there in
    let fault : (c.args.eof.condition == 0) ≡ false = grind (arith, nat_tests, c.if-eof-ne-NO_ERROR.true) in
    eof_fault _ _ k c.args.eof e there (rw same live) fault c.end.ensures.ends

pub returns-then-not-is_receiving-clause-answer : goal.returns-then-not-is_receiving-clause-answer
returns-then-not-is_receiving-clause-answer g c = λ e there.
    let s = g.S.Filestore.state c.args.store.now in
    let b = c.args.books.now in
    let k = c.args.index in
    let r = c.at-entry.result.now in
    let at = c.at-entry.ensures in
    let live : is_live r.phase ≡ true = cc in
    let same = entry_is s b k r at e there in
    let good : (c.args.eof.condition == 0) ≡ true = rw c.if-eof-ne-NO_ERROR.false refl in
    let later : is_receiving r.phase ≡ false = cc in
    eof_again _ k c.args.eof e (rw same live) good (rw same later)

pub finish-requires-clause-live : goal.finish-requires-clause-live
finish-requires-clause-live g c =
    let s = g.S.Filestore.state c.args.store.now in
    let b = c.args.books.now in
    let k = c.args.index in
    let r = c.at-entry.result.now in
    let at = c.at-entry.ensures in
    let live : is_live r.phase ≡ true = cc in
    live_at s b k r at live

pub finish-requires-clause-bare : goal.finish-requires-clause-bare
finish-requires-clause-bare g c = λ e there.
    let s = g.S.Filestore.state c.args.store.now in
    let b = c.args.books.now in
    let k = c.args.index in
    let r = c.at-entry.result.now in
    let at = c.at-entry.ensures in
    let live : is_live r.phase ≡ true = cc in
    let same = entry_is s b k r at e there in
    let bare : (length r.items == 0) ≡ true = sym c.is_bare.ensures ∙ c.if-is_bare.true in
    rw same (nil_from_length r.items (eqb-true _ _ bare))

pub returns-then-is_bare-clause-answer : goal.returns-then-is_bare-clause-answer
returns-then-is_bare-clause-answer g c = λ e there.
    let s = g.S.Filestore.state c.args.store.now in
    let b = c.args.books.now in
    let k = c.args.index in
    let r = c.at-entry.result.now in
    let at = c.at-entry.ensures in
    let live : is_live r.phase ≡ true = cc in
    let same = entry_is s b k r at e there in
    let good : (c.args.eof.condition == 0) ≡ true = rw c.if-eof-ne-NO_ERROR.false refl in
    let first : is_receiving r.phase ≡ true = cc in
    let begin = eof_first _ k c.args.eof e (rw same live) good (rw same first) in
    let bare : (length r.items == 0) ≡ true = sym c.is_bare.ensures ∙ c.if-is_bare.true in
    begin ∙ eof_bare _ _ k c.args.eof e there (rw same bare) c.finish.ensures.done

pub turn-requires-clause-live : goal.turn-requires-clause-live
turn-requires-clause-live g c =
    let s = g.S.Filestore.state c.args.store.now in
    let b = c.args.books.now in
    let k = c.args.index in
    let r = c.at-entry.result.now in
    let at = c.at-entry.ensures in
    let live : is_live r.phase ≡ true = cc in
    live_at s b k r at live

pub returns-then-not-names_file-clause-answer : goal.returns-then-not-names_file-clause-answer
returns-then-not-names_file-clause-answer g c = λ e there.
    let s = g.S.Filestore.state c.args.store.now in
    let b = c.args.books.now in
    let k = c.args.index in
    let r = c.at-entry.result.now in
    let at = c.at-entry.ensures in
    let live : is_live r.phase ≡ true = cc in
    let same = entry_is s b k r at e there in
    let good : (c.args.eof.condition == 0) ≡ true = rw c.if-eof-ne-NO_ERROR.false refl in
    let first : is_receiving r.phase ≡ true = cc in
    let begin = eof_first _ k c.args.eof e (rw same live) good (rw same first) in
    let some : (length r.items == 0) ≡ false = sym c.is_bare.ensures ∙ c.if-is_bare.false in
    let none : has_file r.metadata ≡ false = rw c.metadata.ensures at (sym c.names_file.ensures ∙ c.if-not-names_file.true) in
    begin ∙ eof_no_file _ _ k c.args.eof e there (rw same some) (rw same none) (rw same (rw c.eof-kept.ensures at c.turn.ensures.turns))

pub has_wrong_size-requires : goal.has_wrong_size-requires
has_wrong_size-requires g c =
    let s = g.S.Filestore.state c.args.store.now in
    let b = c.args.books.now in
    let k = c.args.index in
    let r = c.at-entry.result.now in
    let at = c.at-entry.ensures in
    let live : is_live r.phase ≡ true = cc in
    slot_below s b c.requires.sound c.requires.booked k r at live

pub end-requires-then-has_wrong_size-clause-live : goal.end-requires-then-has_wrong_size-clause-live
end-requires-then-has_wrong_size-clause-live g c =
    let s = g.S.Filestore.state c.args.store.now in
    let b = c.args.books.now in
    let k = c.args.index in
    let r = c.at-entry.result.now in
    let at = c.at-entry.ensures in
    let live : is_live r.phase ≡ true = cc in
    live_at s b k r at live

pub returns-then-has_wrong_size-clause-answer : goal.returns-then-has_wrong_size-clause-answer
returns-then-has_wrong_size-clause-answer g c = λ e there.
    let s = g.S.Filestore.state c.args.store.now in
    let b = c.args.books.now in
    let k = c.args.index in
    let r = c.at-entry.result.now in
    let at = c.at-entry.ensures in
    let live : is_live r.phase ≡ true = cc in
    let same = entry_is s b k r at e there in
    let good : (c.args.eof.condition == 0) ≡ true = rw c.if-eof-ne-NO_ERROR.false refl in
    let first : is_receiving r.phase ≡ true = cc in
    let begin = eof_first _ k c.args.eof e (rw same live) good (rw same first) in
    let some : (length r.items == 0) ≡ false = sym c.is_bare.ensures ∙ c.if-is_bare.false in
    let file : has_file r.metadata ≡ true = rw c.metadata.ensures at (sym c.names_file.ensures ∙ c.if-not-names_file.false) in
    let size = received_size s b c.requires.sound c.requires.booked k r at live in
    let wrong : is_wrong_size (world_of s b) c.args.eof (entry_in s.filestore r) ≡ true = rw size (sym c.has_wrong_size.ensures ∙ c.if-has_wrong_size.true) in
    begin ∙ eof_size _ _ k c.args.eof e there (rw same some) (rw same file) (rw same wrong) c.end-then-has_wrong_size.ensures.ends

pub turn-requires-then-not-is_whole-clause-live : goal.turn-requires-then-not-is_whole-clause-live
turn-requires-then-not-is_whole-clause-live g c =
    let s = g.S.Filestore.state c.args.store.now in
    let b = c.args.books.now in
    let k = c.args.index in
    let r = c.at-entry.result.now in
    let at = c.at-entry.ensures in
    let live : is_live r.phase ≡ true = cc in
    live_at s b k r at live

pub returns-then-not-is_whole-clause-answer : goal.returns-then-not-is_whole-clause-answer
returns-then-not-is_whole-clause-answer g c = λ e there.
    let s = g.S.Filestore.state c.args.store.now in
    let b = c.args.books.now in
    let k = c.args.index in
    let r = c.at-entry.result.now in
    let at = c.at-entry.ensures in
    let live : is_live r.phase ≡ true = cc in
    let same = entry_is s b k r at e there in
    let good : (c.args.eof.condition == 0) ≡ true = rw c.if-eof-ne-NO_ERROR.false refl in
    let first : is_receiving r.phase ≡ true = cc in
    let begin = eof_first _ k c.args.eof e (rw same live) good (rw same first) in
    let some : (length r.items == 0) ≡ false = sym c.is_bare.ensures ∙ c.if-is_bare.false in
    let file : has_file r.metadata ≡ true = rw c.metadata.ensures at (sym c.names_file.ensures ∙ c.if-not-names_file.false) in
    let size = received_size s b c.requires.sound c.requires.booked k r at live in
    let wrong : is_wrong_size (world_of s b) c.args.eof (entry_in s.filestore r) ≡ false = rw size (sym c.has_wrong_size.ensures ∙ c.if-has_wrong_size.false) in
    let all = whole_entry s b c.requires.sound c.requires.booked k r at live c.args.eof.size ∙ sym c.is_whole.ensures ∙ c.if-not-is_whole.true in
    begin ∙ eof_waits _ _ k c.args.eof e there (rw same some) (rw same file) (rw same wrong) (rw same all)
    (rw same (rw c.is_complete-complete.ensures at c.turn-then-not-is_whole.ensures.turns))

pub judge-requires-clause-live : goal.judge-requires-clause-live
judge-requires-clause-live g c =
    let s = g.S.Filestore.state c.args.store.now in
    let b = c.args.books.now in
    let k = c.args.index in
    let r = c.at-entry.result.now in
    let at = c.at-entry.ensures in
    let live : is_live r.phase ≡ true = cc in
    live_at s b k r at live

pub returns-clause-answer : goal.returns-clause-answer
returns-clause-answer g c = λ e there.
    let s = g.S.Filestore.state c.args.store.now in
    let b = c.args.books.now in
    let k = c.args.index in
    let r = c.at-entry.result.now in
    let at = c.at-entry.ensures in
    let live : is_live r.phase ≡ true = cc in
    let same = entry_is s b k r at e there in
    let good : (c.args.eof.condition == 0) ≡ true = rw c.if-eof-ne-NO_ERROR.false refl in
    let first : is_receiving r.phase ≡ true = cc in
    let begin = eof_first _ k c.args.eof e (rw same live) good (rw same first) in
    let some : (length r.items == 0) ≡ false = sym c.is_bare.ensures ∙ c.if-is_bare.false in
    let file : has_file r.metadata ≡ true = rw c.metadata.ensures at (sym c.names_file.ensures ∙ c.if-not-names_file.false) in
    let size = received_size s b c.requires.sound c.requires.booked k r at live in
    let wrong : is_wrong_size (world_of s b) c.args.eof (entry_in s.filestore r) ≡ false = rw size (sym c.has_wrong_size.ensures ∙ c.if-has_wrong_size.false) in
    let all = whole_entry s b c.requires.sound c.requires.booked k r at live c.args.eof.size ∙ sym c.is_whole.ensures ∙ c.if-not-is_whole.false in
    carry _ _ _ _ c.judge.ensures.answered (begin ∙ eof_whole _ k c.args.eof e (rw same some) (rw same file) (rw same wrong) (rw same all)
    ∙ c.judge.ensures.answer e there)
