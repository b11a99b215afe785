-- How a list goes on a view of what it sees, which may find that it can't say.
--     TellsSparseRun v w items result     as `TellsRun` has it, where the view can say
--     JudgesSparse                        as `JudgesAlone` has it, where the view can say
use Rattle.std.specs.Prelude.{⊤, ℕ, ◌≤◌, Bool, true, false, List, Option, Some, None, Result, Ok, Err}
use Rattle.cfdp_paths.specs.Paths.{Path}
use Rattle.cfdp_actions.specs.Filestore.{Filestore, blocks}
use Rattle.cfdp_actions.specs.Actions.{Item}
use Rattle.cfdp_states.specs.Views.{Sketch}
use Rattle.cfdp_states.specs.Sparse.{IsSparseViewOf}
use Rattle.cfdp_verifier.specs.declared.refusal.NotGranted.{NotGranted}
use Rattle.cfdp_verifier.specs.code.Judging.{EndsSo, JudgesAlone}

-- on whatever filestore the view describes
abbrev pub TellsSparseRun : Sketch → Sketch → List Item → Result Bool NotGranted → Type 0
TellsSparseRun v w items (Ok false) = ⊤
TellsSparseRun v w items (Ok true) =
    (F : Filestore) (start high taken : ℕ) → IsSparseViewOf v items F start high taken → blocks F ≤ high →
    EndsSo {X = Bool} v.prefixes F items start high taken w (Ok true)
TellsSparseRun v w items (Err fault) =
    (F : Filestore) (start high taken : ℕ) → IsSparseViewOf v items F start high taken → blocks F ≤ high →
    EndsSo {X = Bool} v.prefixes F items start high taken w (Err fault)

abbrev pub JudgesSparse : List Path → Filestore → List ℕ → List Item → Result (Option Sketch) NotGranted → Type 0
JudgesSparse prefixes F x items (Ok None) = ⊤
JudgesSparse prefixes F x items (Ok (Some w)) = JudgesAlone prefixes F x items (Ok w)
JudgesSparse prefixes F x items (Err fault) = JudgesAlone prefixes F x items (Err fault)
