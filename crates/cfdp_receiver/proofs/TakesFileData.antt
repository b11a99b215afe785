-- A transaction whose Prompt PDUs are answered, or whose Keep Alive PDU is due, has no entry in the core or takes file data.
use Rattle.std.specs.Prelude.{is_some}
use Rattle.std.proofs.Common.{◌≡◌, true, false, Option, Some, None, refl, ap, ◌∙◌}
use Rattle.cfdp_sessions.specs.Sessions.{SessionFields, session_id}
use Rattle.cfdp_sessions.specs.declared.session.Stage.{Stage}
use Rattle.cfdp_sessions.specs.declared.session.Stage.TheVariants.{Held, Known, Over, Waiting}
use Rattle.cfdp_transactions.specs.Entry.{Entry}
use Rattle.cfdp_transactions.specs.declared.phase.Phase.{Phase}
use Rattle.cfdp_transactions.specs.declared.phase.Phase.TheVariants.{Receiving, Awaiting, Executing, Refused, Done, Ended}
use Rattle.cfdp_transactions.specs.World.{entry_of}
use Rattle.cfdp_receiver.specs.State.{State, session_of, at_of, at_phase, at_stage}
use Rattle.cfdp_receiver.specs.Laws.{AreKnown, knows}
use Rattle.cfdp_receiver.specs.code.StateMachine.{IsTaking}
use Rattle.cfdp_receiver.specs.Turning.{takes_prompts, is_known}

none_taken : (entry : Option Entry) → is_some entry ≡ false → IsTaking entry
none_taken None e = tt
none_taken (Some entry) e = absurd cc

by_phase : (e : Entry) (phase : Phase) → e.phase ≡ phase → takes_prompts (at_phase phase) ≡ true → IsTaking (Some e)
by_phase e Receiving is takes = rw is refl
by_phase e (Awaiting made) is takes = rw is refl
by_phase e (Executing n) is takes = absurd cc
by_phase e Refused is takes = absurd cc
by_phase e Done is takes = absurd cc
by_phase e (Ended condition) is takes = absurd cc

by_stage : (stage : Stage) (entry : Option Entry) → (is_some entry ≡ is_known stage) → takes_prompts (at_stage stage entry) ≡ true → IsTaking entry
by_stage (Held eof) entry known takes = none_taken entry known
by_stage Known None known takes = absurd cc
by_stage Known (Some e) known takes = by_phase e e.phase refl takes
by_stage (Over ending) entry known takes = absurd cc
by_stage Waiting entry known takes = absurd cc

pub taking : (R : State) (s : SessionFields) → AreKnown R → session_of R (session_id s) ≡ Some s → takes_prompts (at_of R.world s) ≡ true →
    IsTaking (entry_of R.world (session_id s))
taking R s known found takes = by_stage s.stage (entry_of R.world (session_id s)) (known (session_id s) ∙ ap knows found) takes
