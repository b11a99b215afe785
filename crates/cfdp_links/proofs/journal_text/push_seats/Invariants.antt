use Rattle.std.proofs.Common.{◌≡◌, ◌++◌, drop}
use Rattle.cfdp_links.specs.JournalTexts.{seat_texts}
use Rattle.cfdp_links.proofs.journal_text.push_seats.Given as goal

abbrev pub invariant-loop-index : goal.invariant-loop-index
invariant-loop-index l =
    l.text.items ++ seat_texts (drop l.index l.seats) (drop l.index l.initial.dropped) ≡ l.initial.text.items ++ seat_texts l.seats l.initial.dropped
