-- What only the proofs of the code need of `Sharing`.
--     receipt_of                what is reported to a seat about an event that it handed in: the receipt, or why it was
--                               not taken
use Rattle.std.specs.Prelude.{ℕ, Result, Ok, Err}
use Rattle.cfdp_transactions.specs.declared.event.Event.{Event}
use Rattle.cfdp_transactions.specs.declared.reply.Reply.{Reply}
use Rattle.cfdp_engine.specs.Seats.{Receipt}
use Rattle.cfdp_engine.specs.declared.stop.Stop.{Stop}
use Rattle.cfdp_engine.specs.declared.stop.Stop.TheVariants as stops

abbrev pub receipt_of : (index : ℕ) → Event → Reply → Result Receipt Stop
receipt_of index event Reply.Memory = Err stops.Memory
receipt_of index event Reply.JournalFull = Err stops.JournalFull
receipt_of index event reply = Ok (record { place = index; event = event; reply = reply })
