use Rattle.std.specs.Prelude.{◌==◌, false, suc, length, ◌+◌}
use Rattle.cfdp_actions.specs.Store.{free_blocks}
use Rattle.std.proofs.Common.{◌≡◌, ◌∙◌, refl, ap, sym, add-one, eq-eqb, ne_eqb}
use Rattle.cfdp_transactions.specs.Entry.{Executing}
use Rattle.cfdp_transactions.specs.code.Items.{item_of}
use Rattle.cfdp_transactions.proofs.KeptTable.Answering.{answered_reply}
use Rattle.cfdp_transactions.proofs.KeptTable.EntryChanged.{slot_below}
use Rattle.cfdp_transactions.proofs.KeptTable.StepDone.{done_as, succeeds, opened, free_before, taken_within, given_within, few_items, next_below, can_advance, step_answer, booked_more, booked_done, idle_step}
use Rattle.cfdp_transactions.proofs.step.step.Goals as goal

pub returns-in_default-item-clause-answer : goal.returns-in_default-item-clause-answer
returns-in_default-item-clause-answer g c =
    let s = g.S.Filestore.state c.args.store.now in
    let b = c.args.books.now in
    let r = c.at-entry.result.now in
    let at = c.at-entry.ensures in
    let n = c.in-Executing.next in
    let executing : r.phase ≡ Executing n = cc in
    idle_step s b c.args.index r n at executing (sym (rw c.in_default-item.is at c.item.ensures))

pub item_count-requires : goal.item_count-requires
item_count-requires g c =
    let s = g.S.Filestore.state c.args.store.now in
    let b = c.args.books.now in
    let r = c.at-entry.result.now in
    let at = c.at-entry.ensures in
    let n = c.in-Executing.next in
    let executing : r.phase ≡ Executing n = cc in
    let item = item_of c.in-Some.item in
    let there = sym (rw c.in-Some.is at c.item.ensures) in
    few_items c.requires.laws s b c.requires.sound c.requires.booked c.args.index r at n executing item there

pub act-requires-clause-slot : goal.act-requires-clause-slot
act-requires-clause-slot g c =
    let s = g.S.Filestore.state c.args.store.now in
    let b = c.args.books.now in
    let r = c.at-entry.result.now in
    let at = c.at-entry.ensures in
    let n = c.in-Executing.next in
    let executing : r.phase ≡ Executing n = cc in
    rw c.slot-slot.ensures (slot_below s b c.requires.sound c.requires.booked c.args.index r at (rw executing refl))

pub act-requires-clause-succeeds : goal.act-requires-clause-succeeds
act-requires-clause-succeeds g c =
    let s = g.S.Filestore.state c.args.store.now in
    let b = c.args.books.now in
    let r = c.at-entry.result.now in
    let at = c.at-entry.ensures in
    let n = c.in-Executing.next in
    let executing : r.phase ≡ Executing n = cc in
    let item = item_of c.in-Some.item in
    let there = sym (rw c.in-Some.is at c.item.ensures) in
    rw (c.protected.ensures, c.slot-slot.ensures) (succeeds c.requires.laws s b c.requires.sound c.requires.booked c.args.index r at n executing item there)

pub book_quota-requires-clause-slot : goal.book_quota-requires-clause-slot
book_quota-requires-clause-slot g c =
    let s = g.S.Filestore.state c.args.store.now in
    let b = c.args.books.now in
    let r = c.at-entry.result.now in
    let at = c.at-entry.ensures in
    let n = c.in-Executing.next in
    let executing : r.phase ≡ Executing n = cc in
    rw c.slot-slot.ensures (slot_below s b c.requires.sound c.requires.booked c.args.index r at (rw executing refl))

pub book_quota-requires-clause-opened : goal.book_quota-requires-clause-opened
book_quota-requires-clause-opened g c =
    let s = g.S.Filestore.state c.args.store.now in
    let b = c.args.books.now in
    let r = c.at-entry.result.now in
    let at = c.at-entry.ensures in
    let n = c.in-Executing.next in
    let executing : r.phase ≡ Executing n = cc in
    let item = item_of c.in-Some.item in
    let there = sym (rw c.in-Some.is at c.item.ensures) in
    rw c.slot-slot.ensures (opened c.requires.laws s b c.requires.sound c.requires.booked c.args.index r at n executing item there)

pub book_quota-requires-clause-taken : goal.book_quota-requires-clause-taken
book_quota-requires-clause-taken g c =
    let s = g.S.Filestore.state c.args.store.now in
    let b = c.args.books.now in
    let r = c.at-entry.result.now in
    let at = c.at-entry.ensures in
    let n = c.in-Executing.next in
    let executing : r.phase ≡ Executing n = cc in
    let item = item_of c.in-Some.item in
    let there = sym (rw c.in-Some.is at c.item.ensures) in
    let same = done_as c.requires.laws s b c.requires.sound c.requires.booked c.args.index r at n executing item there in
    let state = rw (c.protected.ensures, c.slot-slot.ensures, same) at c.in-Ok.ensures.state in
    rw (c.slot-slot.ensures, c.free-before.ensures.value, c.free-after.ensures.value, state)
    (taken_within c.requires.laws s b c.requires.sound c.requires.booked c.args.index r at n executing item there)

pub book_quota-requires-clause-given : goal.book_quota-requires-clause-given
book_quota-requires-clause-given g c =
    let s = g.S.Filestore.state c.args.store.now in
    let b = c.args.books.now in
    let r = c.at-entry.result.now in
    let at = c.at-entry.ensures in
    let n = c.in-Executing.next in
    let executing : r.phase ≡ Executing n = cc in
    let item = item_of c.in-Some.item in
    let there = sym (rw c.in-Some.is at c.item.ensures) in
    let same = done_as c.requires.laws s b c.requires.sound c.requires.booked c.args.index r at n executing item there in
    let state = rw (c.protected.ensures, c.slot-slot.ensures, same) at c.in-Ok.ensures.state in
    rw (c.free-before.ensures.value, c.free-after.ensures.value, state) (given_within c.requires.laws s b c.requires.sound c.requires.booked c.args.index r at n
    executing item there)

pub book_quota-requires-clause-unused : goal.book_quota-requires-clause-unused
book_quota-requires-clause-unused g c =
    let s = g.S.Filestore.state c.args.store.now in
    let b = c.args.books.now in
    let r = c.at-entry.result.now in
    let at = c.at-entry.ensures in
    let n = c.in-Executing.next in
    let executing : r.phase ≡ Executing n = cc in
    let item = item_of c.in-Some.item in
    let there = sym (rw c.in-Some.is at c.item.ensures) in
    c.free-before.ensures.value ∙ free_before c.requires.laws s b c.requires.sound c.requires.booked c.args.index r at n executing item there

pub advance-requires-clause-next : goal.advance-requires-clause-next
advance-requires-clause-next g c =
    let s = g.S.Filestore.state c.args.store.now in
    let b = c.args.books.now in
    let r = c.at-entry.result.now in
    let at = c.at-entry.ensures in
    let n = c.in-Executing.next in
    let executing : r.phase ≡ Executing n = cc in
    let item = item_of c.in-Some.item in
    let there = sym (rw c.in-Some.is at c.item.ensures) in
    next_below c.requires.laws s b c.requires.sound c.requires.booked c.args.index r at n executing item there

pub advance-requires-clause-fits : goal.advance-requires-clause-fits
advance-requires-clause-fits g c =
    let s = g.S.Filestore.state c.args.store.now in
    let b = c.args.books.now in
    let r = c.at-entry.result.now in
    let at = c.at-entry.ensures in
    let n = c.in-Executing.next in
    let executing : r.phase ≡ Executing n = cc in
    let item = item_of c.in-Some.item in
    let there = sym (rw c.in-Some.is at c.item.ensures) in
    let same = done_as c.requires.laws s b c.requires.sound c.requires.booked c.args.index r at n executing item there in
    let ticks_are = rw (c.protected.ensures, c.slot-slot.ensures, same) at c.in-Ok.ensures.ticks in
    rw at (can_advance c.requires.laws s b c.requires.sound c.requires.booked c.args.index r at n executing item there c.in-Ok.ticks c.is_install-install.result
    ticks_are c.is_install-install.ensures)

pub close-requires : goal.close-requires
close-requires g c =
    let s = g.S.Filestore.state c.args.store.now in
    let b = c.args.books.now in
    let r = c.at-entry.result.now in
    let at = c.at-entry.ensures in
    let n = c.in-Executing.next in
    let executing : r.phase ≡ Executing n = cc in
    rw c.slot-slot.ensures (slot_below s b c.requires.sound c.requires.booked c.args.index r at (rw executing refl))

pub returns-then-last-clause-answer : goal.returns-then-last-clause-answer
returns-then-last-clause-answer g c =
    let s = g.S.Filestore.state c.args.store.now in
    let b = c.args.books.now in
    let r = c.at-entry.result.now in
    let at = c.at-entry.ensures in
    let n = c.in-Executing.next in
    let executing : r.phase ≡ Executing n = cc in
    let item = item_of c.in-Some.item in
    let there = sym (rw c.in-Some.is at c.item.ensures) in
    let same = done_as c.requires.laws s b c.requires.sound c.requires.booked c.args.index r at n executing item there in
    let state = rw (c.protected.ensures, c.slot-slot.ensures, same) at c.in-Ok.ensures.state in
    let ticks_are = rw (c.protected.ensures, c.slot-slot.ensures, same) at c.in-Ok.ensures.ticks in
    let is_after = c.free-after.ensures.value ∙ ap free_blocks state in
    let is_last : (c.from.result + 1 == c.item_count.result) ≡ (suc n == length r.items) = rw (c.from.ensures, c.item_count.ensures, add-one) refl in
    let replied_is = rw (c.protected.ensures, c.slot-slot.ensures, same) at c.in-Ok.ensures.reply in
    rw (state, c.advance.ensures r at) (step_answer c.requires.laws s b c.requires.sound c.requires.booked c.args.index r at n executing item there
    c.free-before.result c.free-after.result c.in-Ok.ticks (c.from.result
    + 1 == c.item_count.result) c.is_install-install.result c.free-before.ensures.value is_after ticks_are c.is_install-install.ensures is_last
    c.in-Ok.reply replied_is)

pub returns-then-last-clause-steady : goal.returns-then-last-clause-steady
returns-then-last-clause-steady g c =
    let s = g.S.Filestore.state c.args.store.now in
    let b = c.args.books.now in
    let r = c.at-entry.result.now in
    let at = c.at-entry.ensures in
    let n = c.in-Executing.next in
    let executing : r.phase ≡ Executing n = cc in
    let item = item_of c.in-Some.item in
    let there = sym (rw c.in-Some.is at c.item.ensures) in
    let same = done_as c.requires.laws s b c.requires.sound c.requires.booked c.args.index r at n executing item there in
    let state = rw (c.protected.ensures, c.slot-slot.ensures, same) at c.in-Ok.ensures.state in
    rw state (refl, refl)

pub returns-then-last-clause-answered : goal.returns-then-last-clause-answered
returns-then-last-clause-answered g c =
    let s = g.S.Filestore.state c.args.store.now in
    let b = c.args.books.now in
    let r = c.at-entry.result.now in
    let at = c.at-entry.ensures in
    let n = c.in-Executing.next in
    let executing : r.phase ≡ Executing n = cc in
    let item = item_of c.in-Some.item in
    let there = sym (rw c.in-Some.is at c.item.ensures) in
    let same = done_as c.requires.laws s b c.requires.sound c.requires.booked c.args.index r at n executing item there in
    let replied_is = rw (c.protected.ensures, c.slot-slot.ensures, same) at c.in-Ok.ensures.reply in
    λ thrifty. rw replied_is (answered_reply _)

pub returns-else-last-clause-answer : goal.returns-else-last-clause-answer
returns-else-last-clause-answer g c =
    let s = g.S.Filestore.state c.args.store.now in
    let b = c.args.books.now in
    let r = c.at-entry.result.now in
    let at = c.at-entry.ensures in
    let n = c.in-Executing.next in
    let executing : r.phase ≡ Executing n = cc in
    let item = item_of c.in-Some.item in
    let there = sym (rw c.in-Some.is at c.item.ensures) in
    let same = done_as c.requires.laws s b c.requires.sound c.requires.booked c.args.index r at n executing item there in
    let state = rw (c.protected.ensures, c.slot-slot.ensures, same) at c.in-Ok.ensures.state in
    let ticks_are = rw (c.protected.ensures, c.slot-slot.ensures, same) at c.in-Ok.ensures.ticks in
    let is_after = c.free-after.ensures.value ∙ ap free_blocks state in
    let is_last : (c.from.result + 1 == c.item_count.result) ≡ (suc n == length r.items) = rw (c.from.ensures, c.item_count.ensures, add-one) refl in
    let replied_is = rw (c.protected.ensures, c.slot-slot.ensures, same) at c.in-Ok.ensures.reply in
    rw (state, c.advance.ensures r at) (step_answer c.requires.laws s b c.requires.sound c.requires.booked c.args.index r at n executing item there
    c.free-before.result c.free-after.result c.in-Ok.ticks (c.from.result
    + 1 == c.item_count.result) c.is_install-install.result c.free-before.ensures.value is_after ticks_are c.is_install-install.ensures is_last
    c.in-Ok.reply replied_is)

pub returns-else-last-clause-steady : goal.returns-else-last-clause-steady
returns-else-last-clause-steady g c =
    let s = g.S.Filestore.state c.args.store.now in
    let b = c.args.books.now in
    let r = c.at-entry.result.now in
    let at = c.at-entry.ensures in
    let n = c.in-Executing.next in
    let executing : r.phase ≡ Executing n = cc in
    let item = item_of c.in-Some.item in
    let there = sym (rw c.in-Some.is at c.item.ensures) in
    let same = done_as c.requires.laws s b c.requires.sound c.requires.booked c.args.index r at n executing item there in
    let state = rw (c.protected.ensures, c.slot-slot.ensures, same) at c.in-Ok.ensures.state in
    rw state (refl, refl)

pub returns-else-last-clause-answered : goal.returns-else-last-clause-answered
returns-else-last-clause-answered g c =
    let s = g.S.Filestore.state c.args.store.now in
    let b = c.args.books.now in
    let r = c.at-entry.result.now in
    let at = c.at-entry.ensures in
    let n = c.in-Executing.next in
    let executing : r.phase ≡ Executing n = cc in
    let item = item_of c.in-Some.item in
    let there = sym (rw c.in-Some.is at c.item.ensures) in
    let same = done_as c.requires.laws s b c.requires.sound c.requires.booked c.args.index r at n executing item there in
    let replied_is = rw (c.protected.ensures, c.slot-slot.ensures, same) at c.in-Ok.ensures.reply in
    λ thrifty. rw replied_is (answered_reply _)

pub returns-then-last-clause-booked : goal.returns-then-last-clause-booked
returns-then-last-clause-booked g c =
    let s = g.S.Filestore.state c.args.store.now in
    let b = c.args.books.now in
    let r = c.at-entry.result.now in
    let at = c.at-entry.ensures in
    let n = c.in-Executing.next in
    let executing : r.phase ≡ Executing n = cc in
    let item = item_of c.in-Some.item in
    let there = sym (rw c.in-Some.is at c.item.ensures) in
    let same = done_as c.requires.laws s b c.requires.sound c.requires.booked c.args.index r at n executing item there in
    let state = rw (c.protected.ensures, c.slot-slot.ensures, same) at c.in-Ok.ensures.state in
    let ticks_are = rw (c.protected.ensures, c.slot-slot.ensures, same) at c.in-Ok.ensures.ticks in
    let is_after = c.free-after.ensures.value ∙ ap free_blocks state in
    let is_last : (c.from.result + 1 == c.item_count.result) ≡ (suc n == length r.items) = rw (c.from.ensures, c.item_count.ensures, add-one) refl in
    let booking = rw c.slot-slot.ensures at c.book_quota.ensures in
    let close = rw c.slot-slot.ensures at c.close.ensures.closed in
    let back = rw c.slot-slot.ensures at c.close.ensures.spare in
    rw (state, c.advance.ensures r at, c.release.ensures, c.name-transaction.ensures)
    (booked_done c.requires.laws s b c.requires.sound c.requires.booked c.args.index r at n executing item there c.free-before.result c.free-after.result
    c.in-Ok.ticks (c.from.result + 1 == c.item_count.result) c.is_install-install.result c.free-before.ensures.value is_after ticks_are
    c.is_install-install.ensures is_last c.book_quota.new.quota booking c.close.new.self close back
    (eq-eqb (c.from.result + 1) c.item_count.result c.if-last.true))

pub returns-else-last-clause-booked : goal.returns-else-last-clause-booked
returns-else-last-clause-booked g c =
    let s = g.S.Filestore.state c.args.store.now in
    let b = c.args.books.now in
    let r = c.at-entry.result.now in
    let at = c.at-entry.ensures in
    let n = c.in-Executing.next in
    let executing : r.phase ≡ Executing n = cc in
    let item = item_of c.in-Some.item in
    let there = sym (rw c.in-Some.is at c.item.ensures) in
    let same = done_as c.requires.laws s b c.requires.sound c.requires.booked c.args.index r at n executing item there in
    let state = rw (c.protected.ensures, c.slot-slot.ensures, same) at c.in-Ok.ensures.state in
    let ticks_are = rw (c.protected.ensures, c.slot-slot.ensures, same) at c.in-Ok.ensures.ticks in
    let is_after = c.free-after.ensures.value ∙ ap free_blocks state in
    let is_last : (c.from.result + 1 == c.item_count.result) ≡ (suc n == length r.items) = rw (c.from.ensures, c.item_count.ensures, add-one) refl in
    let booking = rw c.slot-slot.ensures at c.book_quota.ensures in
    rw (state, c.advance.ensures r at) (booked_more c.requires.laws s b c.requires.sound c.requires.booked c.args.index r at n executing item there
    c.free-before.result c.free-after.result c.in-Ok.ticks (c.from.result
    + 1 == c.item_count.result) c.is_install-install.result c.free-before.ensures.value is_after ticks_are c.is_install-install.ensures is_last
    c.book_quota.new.quota booking (ne_eqb (c.from.result + 1) c.item_count.result c.if-last.false))
