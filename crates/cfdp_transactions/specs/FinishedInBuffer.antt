-- What a request for the outcome gives to a caller that wants the octets of the Finished PDU alone (CCSDS 727.0-B-5
-- §5.2.3).
--     sent reply                the Finished PDU of the outcome that a reply hands out
--     taken_by reply            what is said of it: the condition code, and how many octets it has; None where it hands
--                               out none
use Rattle.std.specs.Prelude.{ℕ, List, [], length, Option, Some, None}
use Rattle.cfdp_transactions.specs.Events.{Reply}
use Rattle.cfdp_transactions.specs.Writable.{finished_octets}
use Rattle.cfdp_transactions.specs.declared.finished_in_buffer.TakenFinished.{TakenFinished}

abbrev pub sent : Reply → List ℕ
sent (Reply.Taken outcome) = finished_octets outcome
sent reply = []

abbrev pub taken_by : Reply → Option TakenFinished
taken_by (Reply.Taken outcome) = Some (record {
  condition = outcome.finished.condition;
  len = length (finished_octets outcome);
})
taken_by reply = None
