-- The parts of an outcome, by what the program keeps.
--     statuses_of performed requests    'successful' for each of the requests that were performed, in order
--     answered_by responses outcome     the outcome with these responses
use Rattle.std.specs.Prelude.{ℕ, List, take}
use Rattle.cfdp_status.specs.declared.status.Status.{Status}
use Rattle.cfdp_tlv.specs.Values.{RequestFields, ResponseFields}
use Rattle.cfdp_transactions.specs.Events.{Outcome}
use Rattle.cfdp_transactions.specs.Sound.{all_successful}

abbrev pub statuses_of : ℕ → List RequestFields → List Status
statuses_of performed requests = take performed (all_successful requests)

abbrev pub answered_by : List ResponseFields → Outcome → Outcome
answered_by responses o = record o { finished = record o.finished { responses = responses } }
