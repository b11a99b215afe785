-- What the calls from C that change nothing write, and what they return.
--   FoundOrNothing found old new answer    what was found is written, or there is nothing and all is as before
--   Reads f handle old new answer    what f says of the world of an engine: there is something, which is written, or
--                                    there is nothing
--   name_fields, phase_fields, grant_fields, gap_fields    what is reported, as structs
--   blocks_fields W           free blocks, and those of them that nobody was granted
use Rattle.std.specs.Prelude.{◌≡◌, ℕ, List, slice_get, Option, Some, None}
use Rattle.cfdp_status.specs.declared.transaction.TransactionId.{TransactionId}
use Rattle.cfdp_transactions.specs.declared.phase.Phase.{Phase}
use Rattle.cfdp_transactions.specs.declared.phase.Phase.TheVariants as phase
use Rattle.cfdp_transactions.specs.World.{World, free, spare_blocks}
use Rattle.cfdp_c.specs.Answers.{answer_code}
use Rattle.cfdp_c.specs.declared.answer.CallAnswer.TheVariants.{Done, NoEngine, Nothing}
use Rattle.cfdp_c.specs.declared.fields.BlocksFields.{BlocksFields}
use Rattle.cfdp_c.specs.declared.fields.GapFields.{GapFields}
use Rattle.cfdp_c.specs.declared.fields.GrantFields.{GrantFields}
use Rattle.cfdp_c.specs.declared.fields.NameFields.{NameFields}
use Rattle.cfdp_c.specs.declared.fields.PhaseFields.{PhaseFields}

abbrev pub FoundOrNothing : {X : Type 0} → Option X → X → X → ℕ → Type 0
FoundOrNothing None old new answer = (new ≡ old) × (answer ≡ answer_code Nothing)
FoundOrNothing (Some x) old new answer = (new ≡ x) × (answer ≡ answer_code Done)

abbrev pub Reads : {X : Type 0} → (World → Option X) → Option World → X → X → ℕ → Type 0
Reads f None old new answer = (new ≡ old) × (answer ≡ answer_code NoEngine)
Reads f (Some W) old new answer = FoundOrNothing (f W) old new answer

abbrev pub name_fields : TransactionId → NameFields
name_fields id = record { source = id.source; number = id.number }

abbrev pub phase_fields : Phase → PhaseFields
phase_fields phase.Receiving = record { phase = 1; detail = 0 }
phase_fields (phase.Awaiting checks) = record { phase = 2; detail = checks }
phase_fields (phase.Executing item) = record { phase = 3; detail = item }
phase_fields phase.Refused = record { phase = 4; detail = 0 }
phase_fields phase.Done = record { phase = 5; detail = 0 }
phase_fields (phase.Ended condition) = record { phase = 6; detail = condition }

abbrev pub grant_fields : ℕ × ℕ → GrantFields
grant_fields grant = record { blocks = grant.0; steps = grant.1 }

abbrev pub gap_fields : ℕ × ℕ → GapFields
gap_fields gap = record { start = gap.0; end = gap.1 }

abbrev pub gap_of : Option (List (ℕ × ℕ)) → ℕ → Option (ℕ × ℕ)
gap_of None index = None
gap_of (Some all) index = slice_get all index

abbrev pub blocks_fields : World → Option BlocksFields
blocks_fields W = Some (record { free = free W; spare = spare_blocks W })
