-- What is sent of an outcome (CCSDS 727.0-B-5 §5.2.3).
--   sent reply                the Finished PDU of the outcome that a reply hands out
--   IsUntaken W id out why    why the outcome was not handed out: its octets are longer than out, or out of memory
use Rattle.std.specs.Prelude.{◌≡◌, ⊤, ℕ, ◌<◌, length, List}
pub use Rattle.cfdp_transactions.specs.FinishedInBuffer.{sent}
use Rattle.cfdp_status.specs.declared.transaction.TransactionId.{TransactionId}
use Rattle.cfdp_transactions.specs.declared.event.Event.TheVariants.{Take}
use Rattle.cfdp_transactions.specs.World.{World}
use Rattle.cfdp_transactions.specs.Next.{next}
use Rattle.cfdp_entity.specs.declared.fault.NotTaken.{NotTaken}
use Rattle.cfdp_entity.specs.declared.fault.NotTaken.TheVariants.{TooShort, Memory}

abbrev pub IsUntaken : World → TransactionId → List ℕ → NotTaken → Type 0
IsUntaken W id out Memory = ⊤
IsUntaken W id out (TooShort needed) = (needed ≡ length (sent (next W (Take id)).1)) × (length out < needed)
