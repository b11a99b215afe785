-- What only the proofs of the code need of `Working`.
--     PassesOver message answer what is returned for one: that it is, or that there was no memory for its copy
use Rattle.std.specs.Prelude.{◌≡◌, Bool, true, List, ◌++◌, Result, Ok, Err}
use Rattle.cfdp_pdus.specs.First.{pdu_at}
use Rattle.cfdp_pdus.specs.Receiving.{IsCopied}
use Rattle.cfdp_transactions.specs.declared.event.Event.{Event}
use Rattle.cfdp_engine.specs.declared.message.Message.{Message}
use Rattle.cfdp_engine.specs.declared.message.Message.TheVariants as messages
use Rattle.cfdp_engine.specs.declared.stop.Stop.{Stop}
use Rattle.cfdp_engine.specs.declared.stop.Stop.TheVariants as stops
use Rattle.cfdp_engine.specs.Working.{Brings}

-- only a Metadata PDU and a File Data PDU are copied before they are judged
abbrev pub PassesOver : Message → Result Bool Stop → Type 0
PassesOver (messages.Pdu octets) (Err stops.Memory) = IsCopied (pdu_at octets.items)
PassesOver message answer = answer ≡ Ok true

pub record BeginsOne (m : Message) (es : List Event) : Type 0 where
  pub more : List Event
  pub brings : Brings m (es ++ more)
