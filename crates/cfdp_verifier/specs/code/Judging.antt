-- How a list goes on a view, in the words of the verdict.
--     TellsRun v w items result        on whatever filestore the view describes: each item is successful, and the view
--                                      after them says what they need and take; or the first one that is not
--                                      successful is named
--     JudgesAlone, Judges              a list whose file may be installed and whose requests succeed, with the view
--                                      that says what it needs and takes, or why it is refused;
--                                      and what it is granted
--     Affords w spare result           a list of which the view says this is granted what it costs, or refused
use Rattle.std.specs.Prelude.{◌≡◌, ⊤, ℕ, ◌+◌, ◌-◌, ◌≤◌, min, max, List, Option, Some, None, Result, Ok, Err}
use Rattle.cfdp_status.specs.declared.status.Status.{Status}
use Rattle.cfdp_paths.specs.Paths.{Path}
use Rattle.cfdp_actions.specs.Filestore.{Filestore, blocks}
use Rattle.cfdp_actions.specs.Actions.{Item}
use Rattle.cfdp_states.specs.Alone.{statuses, steps, peak}
use Rattle.cfdp_states.specs.Views.{most_need, Sketch, IsViewOf}
use Rattle.cfdp_verifier.specs.declared.refusal.NotGranted.{NotGranted}
use Rattle.cfdp_verifier.specs.declared.refusal.Refusal.{Refusal}
use Rattle.cfdp_verifier.specs.declared.refusal.NotGranted.TheVariants as no
use Rattle.cfdp_verifier.specs.declared.judging.Costs.{Costs}
use Rattle.cfdp_verifier.specs.Verdict.{WouldFail, Verdict, Refuse, Grant, capped, first_failure, judged_items, judged_apart}

abbrev pub FailsSo : NotGranted → Option (ℕ × Status) → Type 0
FailsSo (no.Refused refusal) failure = (i : ℕ) × (status : Status) × (failure ≡ Some (i, status))
    × (refusal ≡ WouldFail i status)
FailsSo no.Memory failure = ⊤

-- from F, where this many blocks were in use at first and at most, and this many steps are taken
abbrev pub EndsSo : {X : Type 0} → List Path → Filestore → List Item → ℕ → ℕ → ℕ → Sketch → Result X NotGranted → Type 0
EndsSo prefixes F items start high taken w (Ok _) =
    (first_failure 0 (statuses prefixes F 0 items) ≡ None)
    × (w.need ≡ min (max high (peak prefixes F 0 items) - start) most_need)
    × (w.steps ≡ capped (taken + steps prefixes F 0 items))
EndsSo prefixes F items start high taken w (Err fault) = FailsSo fault (first_failure 0 (statuses prefixes F 0 items))

abbrev pub TellsRun : {X : Type 0} → Sketch → Sketch → List Item → Result X NotGranted → Type 0
TellsRun v w items result =
    (F : Filestore) (start high taken : ℕ) → IsViewOf v F start high taken → blocks F ≤ high →
    EndsSo v.prefixes F items start high taken w result

abbrev pub RefusesSo : NotGranted → Verdict → Type 0
RefusesSo (no.Refused refusal) v = v ≡ Refuse refusal
RefusesSo no.Memory v = ⊤

-- whatever is to spare
abbrev pub JudgesAlone : List Path → Filestore → List ℕ → List Item → Result Sketch NotGranted → Type 0
JudgesAlone prefixes F x items (Ok w) =
    (needed : ℕ) × (taken : ℕ) × ((spare : ℕ) → judged_apart prefixes F spare x items None
    ≡ judged_items spare items None needed taken)
    × (w.need ≡ min needed most_need) × (w.steps ≡ capped taken)
JudgesAlone prefixes F x items (Err fault) = (spare : ℕ) → RefusesSo fault (judged_apart prefixes F spare x items None)

abbrev pub Judges : List Item → Verdict → Result Costs NotGranted → Type 0
Judges items v (Ok costs) = v ≡ Grant items costs.blocks costs.steps
Judges items v (Err fault) = RefusesSo fault v

-- where the view describes a list that needs and takes so much
abbrev pub IsVerdictOfCosts : List Item → Verdict → Result Costs Refusal → Type 0
IsVerdictOfCosts items v (Ok costs) = v ≡ Grant items costs.blocks costs.steps
IsVerdictOfCosts items v (Err refusal) = v ≡ Refuse refusal

abbrev pub Affords : Sketch → ℕ → Result Costs Refusal → Type 0
Affords w spare result =
    (items : List Item) (needed taken : ℕ) → w.need ≡ min needed most_need → w.steps ≡ capped taken →
    IsVerdictOfCosts items (judged_items spare items None needed taken) result
