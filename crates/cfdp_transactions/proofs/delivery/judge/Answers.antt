use Rattle.std.proofs.Common.{◌≡◌, ◌∙◌, sym, true, false}
use Rattle.cfdp_transactions.specs.Delivery.{is_right_checksum}
use Rattle.cfdp_transactions.proofs.KeptTable.Answering.{entry_is, whole_fault, whole_complete}
use Rattle.cfdp_transactions.proofs.KeptTable.EofAnswers.{right_entry}
use Rattle.cfdp_transactions.proofs.KeptTable.EntryChanged.{live_entry, slot_below}
use Rattle.cfdp_transactions.proofs.delivery.judge.Goals as goal

pub is_right-requires : goal.is_right-requires
is_right-requires g c =
    let s = g.S.Filestore.state c.args.store.now in
    let b = c.args.books.now in
    let k = c.args.index in
    let r = c.at-entry.result.now in
    let at = c.at-entry.ensures in
    slot_below s b c.requires.sound c.requires.booked k r at (live_entry s b k r c.requires.live at)

pub returns-then-not-is_right-clause-answer : goal.returns-then-not-is_right-clause-answer
returns-then-not-is_right-clause-answer g c = λ e there.
    let s = g.S.Filestore.state c.args.store.now in
    let b = c.args.books.now in
    let k = c.args.index in
    let r = c.at-entry.result.now in
    let at = c.at-entry.ensures in
    let same = entry_is s b k r at e there in
    let right = right_entry s b c.requires.sound c.requires.booked k r at (live_entry s b k r c.requires.live at) c.args.sum in
    let wrong : is_right_checksum e c.args.sum ≡ false = rw same (right ∙ sym c.is_right.ensures ∙ c.if-not-is_right.true) in
    whole_fault _ _ k e c.args.sum there wrong c.end.ensures.ends

pub returns-clause-answer : goal.returns-clause-answer
returns-clause-answer g c = λ e there.
    let s = g.S.Filestore.state c.args.store.now in
    let b = c.args.books.now in
    let k = c.args.index in
    let r = c.at-entry.result.now in
    let at = c.at-entry.ensures in
    let same = entry_is s b k r at e there in
    let right = right_entry s b c.requires.sound c.requires.booked k r at (live_entry s b k r c.requires.live at) c.args.sum in
    let is : is_right_checksum e c.args.sum ≡ true = rw same (right ∙ sym c.is_right.ensures ∙ c.if-not-is_right.false) in
    whole_complete _ _ k e c.args.sum there is (rw same (rw c.eof-eof.ensures at c.turn.ensures.turns))
