-- The next world and the reply, for each event; and runs of events.
--     next W event              by the table of events
--     run W events              the world after all of them;  replies: what was replied to each
--     completes                 the event takes a transaction from one phase to its completion
use Rattle.std.specs.Prelude.{Bool, true, false, not, ◌&&◌, ◌==◌, if◌then◌else◌, List, [], ◌∷◌}
use Rattle.cfdp_pdus.specs.declared.header.Header.{Header}
use Rattle.cfdp_transactions.specs.Entry.{Phase, Done, is_executing, is_receiving, id_of}
use Rattle.cfdp_transactions.specs.Events.{Event, MetadataCame, DataCame, EofCame, Step, Cancel, Check, Take, Reply}
use Rattle.cfdp_transactions.specs.World.{World, index_of, entry_of}
use Rattle.cfdp_transactions.specs.Admission.{metadata_came}
use Rattle.cfdp_transactions.specs.Delivery.{data_came, eof_came, checked}
use Rattle.cfdp_transactions.specs.Execution.{stepped}
use Rattle.cfdp_transactions.specs.Ending.{cancelled, taken_out}

-- a PDU for another entity changes nothing
abbrev pub for_us : World → Header → World × Reply → World × Reply
for_us W h answer = if h.destination == W.config.entity then answer else (W, Reply.NotForUs)

abbrev pub next : World → Event → World × Reply
next W (MetadataCame h m) = for_us W h (metadata_came W h m (entry_of W (id_of h)))
next W (DataCame h piece) = for_us W h (data_came W (index_of W (id_of h)) piece (entry_of W (id_of h)))
next W (EofCame h eof) = for_us W h (eof_came W (index_of W (id_of h)) eof (entry_of W (id_of h)))
next W (Step id) = stepped W (index_of W id) (entry_of W id)
next W (Cancel id) = cancelled W (index_of W id) (entry_of W id)
next W (Check id) = checked W (index_of W id) (entry_of W id)
next W (Take id) = taken_out W (index_of W id) (entry_of W id)

abbrev pub run : World → List Event → World
run W [] = W
run W (v ∷ vs) = run (next W v).0 vs

abbrev pub replies : World → List Event → List Reply
replies W [] = []
replies W (v ∷ vs) = (next W v).1 ∷ replies (next W v).0 vs

-- a Step takes it out of Executing, or an EOF takes it to Done
abbrev pub is_done : Phase → Bool
is_done Done = true
is_done phase = false

abbrev pub completes : Event → Phase → Phase → Bool
completes (Step id) before now = is_executing before && not (is_executing now)
completes (EofCame h eof) before now = is_receiving before && is_done now
completes event before now = false
