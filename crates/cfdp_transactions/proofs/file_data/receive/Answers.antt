use Rattle.std.proofs.Common.{◌≡◌, ◌∙◌, sym, ap, arith}
use Rattle.std.specs.Prelude.{true, false, length, ◌+◌, ◌≤◌, ◌<◌, ◌==◌, nat_lt, nat_le}
use Rattle.std.proofs.lemmas.Bool.{ltb-false}
use Rattle.std.proofs.lemmas.Bool.Decides.{nat_tests}
use Rattle.cfdp_transactions.specs.Received.{kept_with, pieces}
use Rattle.cfdp_transactions.specs.Pieces.{with_range}
use Rattle.cfdp_pdus.specs.Values.{FileDataFields}
use Rattle.cfdp_transactions.specs.Entry.{takes_data}
use Rattle.cfdp_transactions.specs.code.TableEntries.{entry_in}
use Rattle.cfdp_transactions.specs.Delivery.{limit}
use Rattle.cfdp_transactions.proofs.KeptTable.Answering.{live_at, entry_is}
use Rattle.cfdp_transactions.proofs.KeptTable.DataAnswers.{stored_length, many_pieces, few_pieces, data_past, data_dropped, data_stored}
use Rattle.cfdp_transactions.proofs.KeptTable.WorldOfTable.{table_entry_at}
use Rattle.cfdp_transactions.proofs.Soundness.EachEvent.{data_live}
use Rattle.cfdp_transactions.proofs.file_data.receive.Goals as goal

pub end-requires-clause-live : goal.end-requires-clause-live
end-requires-clause-live g c =
    let s = g.S.Filestore.state c.args.store.now in
    let b = c.args.books.now in
    let k = c.args.index in
    let r = c.at-entry.result.now in
    let at = c.at-entry.ensures in
    let p = c.args.piece.now in
    let offset : c.piece.inside.offset ≡ p.offset = ap (λ (q : FileDataFields). q.offset) c.piece.view_is in
    let count : length c.piece.inside.octets.now ≡ length p.octets = ap (λ (q : FileDataFields). length q.octets) c.piece.view_is in
    let takes : takes_data r.phase ≡ true = cc in
    live_at s b k r at (data_live r.phase takes)

pub returns-then-ends_past-clause-answer : goal.returns-then-ends_past-clause-answer
returns-then-ends_past-clause-answer g c = λ e there.
    let s = g.S.Filestore.state c.args.store.now in
    let b = c.args.books.now in
    let k = c.args.index in
    let r = c.at-entry.result.now in
    let at = c.at-entry.ensures in
    let p = c.args.piece.now in
    let offset : c.piece.inside.offset ≡ p.offset = ap (λ (q : FileDataFields). q.offset) c.piece.view_is in
    let count : length c.piece.inside.octets.now ≡ length p.octets = ap (λ (q : FileDataFields). length q.octets) c.piece.view_is in
    let takes : takes_data r.phase ≡ true = cc in
    let same_limit = c.limit_of.ensures s.filestore in
    let past : nat_lt (limit r.phase b.config (entry_in s.filestore r)) (p.offset + length p.octets) ≡ true =
    rw (same_limit, offset, count) at (sym c.ends_past.ensures ∙ c.if-ends_past.true) in
    let same = entry_is s b k r at e there in
    let some : (length p.octets == 0) ≡ false = grind (
      arith,
      nat_tests,
      c.is_empty.ensures,
      c.if-is_empty.false,
      ap (λ (q : FileDataFields). length q.octets) c.piece.view_is,
    ) in
    data_past _ k p e there (rw same takes) some _ (rw same past) c.end.ensures.ends

pub returns-then-not-has_room_for-clause-answer : goal.returns-then-not-has_room_for-clause-answer
returns-then-not-has_room_for-clause-answer g c = λ e there.
    let s = g.S.Filestore.state c.args.store.now in
    let b = c.args.books.now in
    let k = c.args.index in
    let r = c.at-entry.result.now in
    let at = c.at-entry.ensures in
    let p = c.args.piece.now in
    let offset : c.piece.inside.offset ≡ p.offset = ap (λ (q : FileDataFields). q.offset) c.piece.view_is in
    let count : length c.piece.inside.octets.now ≡ length p.octets = ap (λ (q : FileDataFields). length q.octets) c.piece.view_is in
    let takes : takes_data r.phase ≡ true = cc in
    let same_limit = c.limit_of.ensures s.filestore in
    let past : nat_lt (limit r.phase b.config (entry_in s.filestore r)) (p.offset + length p.octets) ≡ false =
    rw (same_limit, offset, count) at (sym c.ends_past.ensures ∙ c.if-ends_past.false) in
    let same = entry_is s b k r at e there in
    let some : (length p.octets == 0) ≡ false = grind (
      arith,
      nat_tests,
      c.is_empty.ensures,
      c.if-is_empty.false,
      ap (λ (q : FileDataFields). length q.octets) c.piece.view_is,
    ) in
    let more : 0 < length p.octets = grind (arith, nat_tests) in
    let live = data_live r.phase takes in
    let room : nat_le (length (with_range p.offset (p.offset + length p.octets) r.ranges)) 32 ≡ false =
    rw (c.ranges-2.ensures, offset, count) at (sym c.has_room_for.ensures ∙ c.if-not-has_room_for.true) in
    data_dropped _ k p e there (rw same takes) some (rw same past) (rw same (many_pieces s b c.requires.booked k r at live p more room))

pub stage-requires-clause-taken : goal.stage-requires-clause-taken
stage-requires-clause-taken g c =
    let s = g.S.Filestore.state c.args.store.now in
    let b = c.args.books.now in
    let k = c.args.index in
    let r = c.at-entry.result.now in
    let at = c.at-entry.ensures in
    let p = c.args.piece.now in
    let offset : c.piece.inside.offset ≡ p.offset = ap (λ (q : FileDataFields). q.offset) c.piece.view_is in
    let count : length c.piece.inside.octets.now ≡ length p.octets = ap (λ (q : FileDataFields). length q.octets) c.piece.view_is in
    let takes : takes_data r.phase ≡ true = cc in
    let same_limit = c.limit_of.ensures s.filestore in
    let past : nat_lt (limit r.phase b.config (entry_in s.filestore r)) (p.offset + length p.octets) ≡ false =
    rw (same_limit, offset, count) at (sym c.ends_past.ensures ∙ c.if-ends_past.false) in
    let some : (length p.octets == 0) ≡ false = grind (
      arith,
      nat_tests,
      c.is_empty.ensures,
      c.if-is_empty.false,
      ap (λ (q : FileDataFields). length q.octets) c.piece.view_is,
    ) in
    let more : 0 < length p.octets = grind (arith, nat_tests) in
    let live = data_live r.phase takes in
    let room : nat_le (length (with_range p.offset (p.offset + length p.octets) r.ranges)) 32 ≡ true =
    rw (c.ranges-2.ensures, offset, count) at (sym c.has_room_for.ensures ∙ c.if-not-has_room_for.false) in
    let below : p.offset + length p.octets ≤ limit r.phase b.config (entry_in s.filestore r) = ltb-false _ _ past in (
      entry_in s.filestore r,
      table_entry_at s.filestore b.table k r at,
      record {
        opens = takes;
        some = more;
        below = below;
        few = few_pieces s b c.requires.booked k r at live p more room;
      },
    )

pub judge_last-requires-clause-within : goal.judge_last-requires-clause-within
judge_last-requires-clause-within g c =
    let s = g.S.Filestore.state c.args.store.now in
    let t = g.S.Filestore.state c.stage.new.store in
    rw (stored_length s t c.args.books.now c.stage.new.books c.args.index c.at-entry.result.now c.args.piece.now c.at-entry.ensures c.in-Ok.ensures.stored)
    c.requires.within

pub returns-clause-answer : goal.returns-clause-answer
returns-clause-answer g c = λ e there.
    let s = g.S.Filestore.state c.args.store.now in
    let b = c.args.books.now in
    let k = c.args.index in
    let r = c.at-entry.result.now in
    let at = c.at-entry.ensures in
    let p = c.args.piece.now in
    let offset : c.piece.inside.offset ≡ p.offset = ap (λ (q : FileDataFields). q.offset) c.piece.view_is in
    let count : length c.piece.inside.octets.now ≡ length p.octets = ap (λ (q : FileDataFields). length q.octets) c.piece.view_is in
    let takes : takes_data r.phase ≡ true = cc in
    let same_limit = c.limit_of.ensures s.filestore in
    let past : nat_lt (limit r.phase b.config (entry_in s.filestore r)) (p.offset + length p.octets) ≡ false =
    rw (same_limit, offset, count) at (sym c.ends_past.ensures ∙ c.if-ends_past.false) in
    let same = entry_is s b k r at e there in
    let some : (length p.octets == 0) ≡ false = grind (
      arith,
      nat_tests,
      c.is_empty.ensures,
      c.if-is_empty.false,
      ap (λ (q : FileDataFields). length q.octets) c.piece.view_is,
    ) in
    let more : 0 < length p.octets = grind (arith, nat_tests) in
    let live = data_live r.phase takes in
    let room : nat_le (length (with_range p.offset (p.offset + length p.octets) r.ranges)) 32 ≡ true =
    rw (c.ranges-2.ensures, offset, count) at (sym c.has_room_for.ensures ∙ c.if-not-has_room_for.false) in
    let few : nat_lt 32 (pieces (kept_with (entry_in s.filestore r).received p.offset p.octets)) ≡ false = let f =
    few_pieces s b c.requires.booked k r at live p more room in grind (arith, nat_tests) in
    data_stored _ k p e there (rw same takes) some (rw same past) _ _ c.judge_last.result
    (rw same few) c.in-Ok.ensures.stored c.judge_last.ensures.answer c.judge_last.ensures.answered
