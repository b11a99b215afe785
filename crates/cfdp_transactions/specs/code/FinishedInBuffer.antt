-- What only the proofs of the code need of `FinishedInBuffer`.
--     answered_with requests performed outcome   the outcome with one response to each request: the first ones were
--                                                performed
--     responses_field requests performed           these responses, as TLV fields
--     unperformed_field r       the response to a request that was not performed: each response to it has as many
--                               octets
--     Issues answer V ..        the world after and what was written and reported are those of the answer
--     FallsShort answer W V ..  the buffer is too short for the Finished PDU, and nothing changed
use Rattle.std.specs.Prelude.{◌≡◌, ℕ, ◌<◌, ◌≤◌, List, length, Option}
use Rattle.std.specs.List.{flat_map}
use Rattle.cfdp_status.specs.declared.status.Status.TheVariants.{NotPerformed}
use Rattle.cfdp_tlv.specs.Values.{RequestFields}
use Rattle.cfdp_pdus.specs.Canonical.{response_field}
use Rattle.cfdp_pdus.specs.BufferParts.{filled}
use Rattle.cfdp_transactions.specs.Events.{Outcome, Reply}
use Rattle.cfdp_transactions.specs.Outcome.{answered, responses_of}
use Rattle.cfdp_transactions.specs.code.TakenOutcome.{answered_by, statuses_of}
use Rattle.cfdp_transactions.specs.World.{World}
use Rattle.cfdp_transactions.specs.declared.finished_in_buffer.TakenFinished.{TakenFinished}
use Rattle.cfdp_transactions.specs.declared.finished_in_buffer.ShortBuffer.{ShortBuffer}
use Rattle.cfdp_transactions.specs.FinishedInBuffer.{sent, taken_by}

abbrev pub answered_with : List RequestFields → ℕ → Outcome → Outcome
answered_with requests performed outcome = answered_by (responses_of requests (statuses_of performed requests)) outcome

abbrev pub responses_field : List RequestFields → ℕ → List ℕ
responses_field requests performed = flat_map response_field (responses_of requests (statuses_of performed requests))

abbrev pub unperformed_field : RequestFields → List ℕ
unperformed_field r = response_field (answered r (NotPerformed r.action))

pub record Issues (answer : World × Reply) (V : World) (out written : List ℕ)
    (returned : Option TakenFinished) : Type 0 where
  pub world : V ≡ answer.0
  pub returned_is : returned ≡ taken_by answer.1
  pub octets : written ≡ filled (sent answer.1) out
  pub fits : length (sent answer.1) ≤ length out

pub record FallsShort (answer : World × Reply) (W V : World) (out written : List ℕ) (short : ShortBuffer) : Type 0 where
  pub needed : short.needed ≡ length (sent answer.1)
  pub less : length out < short.needed
  pub world : V ≡ W
  pub octets : written ≡ out
