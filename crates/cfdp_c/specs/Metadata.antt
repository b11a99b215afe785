-- What C reads of the Metadata PDU of a transaction.
--   metadata_of W id          the Metadata PDU of a transaction, if the engine has the transaction
--   metadata_numbers m        its numbers, as a struct
--   WritesName f handle out written before count answer    the name that f reads in an engine's world is written to the
--                                                          start of a
--                             buffer, and its length to count; or it does not fit; or there is none
use Rattle.std.specs.Prelude.{◌≡◌, ℕ, if◌then◌else◌, List, Option, Some, None}
use Rattle.cfdp_status.specs.declared.transaction.TransactionId.{TransactionId}
use Rattle.cfdp_pdus.specs.Values.{MetadataFields}
use Rattle.cfdp_transactions.specs.CoreFields.{read_of}
use Rattle.cfdp_transactions.specs.World.{World}
use Rattle.cfdp_c.specs.Answers.{answer_code}
use Rattle.cfdp_c.specs.Shown.{PutsAny}
use Rattle.cfdp_c.specs.declared.answer.CallAnswer.TheVariants.{NoEngine}
use Rattle.cfdp_c.specs.declared.fields.MetadataNumbers.{MetadataNumbers}

abbrev pub metadata_of : World → TransactionId → Option MetadataFields
metadata_of W id = read_of (λ e. e.metadata) W id

abbrev pub metadata_numbers : MetadataFields → MetadataNumbers
metadata_numbers m = record { size = m.size; closure = if m.closure then 1 else 0; checksum_type = m.checksum_type }

abbrev pub WritesName : (World → Option (List ℕ)) → Option World → List ℕ → List ℕ → ℕ → ℕ → ℕ → Type 0
WritesName f None out written before count answer = (written ≡ out) × (count ≡ before) × (answer ≡ answer_code NoEngine)
WritesName f (Some W) out written before count answer = PutsAny (f W) out written before count answer
