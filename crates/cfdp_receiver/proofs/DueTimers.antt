-- Timers that are due, by the indices of sessions.
use Rattle.std.specs.Prelude.{slice_get, IsTrue}
use Rattle.std.proofs.Common.{◌≡◌, ℕ, ◌+◌, ◌≤◌, Bool, true, false, ◌&&◌, ◌||◌, List, ◌∷◌, length, drop, Option, Some, None, refl, sym, ap, ◌∙◌, arith}
use Rattle.std.proofs.lemmas.Bool.{and_parts}
use Rattle.std.proofs.lemmas.List.{drop_more, at_drop_all}
use Rattle.std.proofs.lemmas.Option.{slice_get_within, get_or_from_slice_get}
use Rattle.cfdp_retransmission.specs.declared.timer.Expiry.{Expiry}
use Rattle.cfdp_retransmission.specs.declared.timer.Expiry.TheVariants.{NotDue, Again, Limit}
use Rattle.cfdp_retransmission.specs.declared.timer.Timer.{Timer}
use Rattle.cfdp_retransmission.specs.Timers.{expiry}
use Rattle.cfdp_retransmission.proofs.Waiting.{Early, Due as DueNow, Over, why}
use Rattle.cfdp_sessions.specs.Sessions.{SessionFields, session_id}
use Rattle.cfdp_sessions.specs.declared.session.Stage.{Stage}
use Rattle.cfdp_sessions.specs.declared.session.Stage.TheVariants as stages
use Rattle.cfdp_transactions.specs.declared.phase.Phase.{Phase}
use Rattle.cfdp_transactions.specs.declared.phase.Phase.TheVariants as phases
use Rattle.cfdp_transactions.specs.Entry.{Entry, takes_data}
use Rattle.cfdp_transactions.specs.World.{entry_of}
use Rattle.cfdp_receiver.specs.declared.mib.Mib.{Mib}
use Rattle.cfdp_receiver.specs.State.{State, JointPhase, At_held, At_receiving, At_awaiting, At_executing, At_over, At_waiting, at_of, at_phase, at_stage}
use Rattle.cfdp_receiver.specs.Due.{IsSet, expiry_by, has_passed, is_receiving_at, terms_at, Due, Nothing_due, due_by, expiry_of, first_due, is_alive_due}
use Rattle.cfdp_receiver.specs.StateMachine.{is_any_due}
use Rattle.cfdp_receiver.specs.code.StateMachine.{IsTaking, is_expired, timer_of}

-- ---- the first that is due

-- a list from an index on, of anything
pub drop_next : {X : Type 0} (xs : List X) (n : ℕ) (x : X) → slice_get xs n ≡ Some x → drop n xs ≡ x ∷ drop (n + 1) xs
drop_next xs n x e =
    drop_more xs n x (slice_get_within xs n x e) ∙ ap (λ y. y ∷ drop (n + 1) xs) (get_or_from_slice_get xs n x x e)

-- from a session on
pub due_from : (R : State) (ss : List SessionFields) (i : ℕ) (s : SessionFields) → slice_get ss i ≡ Some s →
    first_due R (drop i ss) ≡ due_by (expiry_of R s) (is_alive_due R s) s (first_due R (drop (i + 1) ss))
due_from R ss i s e = ap (first_due R) (drop_next ss i s e)

-- none before it is due, and its own is
pub timer_here : (R : State) (ss : List SessionFields) (i : ℕ) (s : SessionFields) (make : SessionFields → Due) → slice_get ss i ≡ Some s →
    ((later : Due) → due_by (expiry_of R s) (is_alive_due R s) s later ≡ make s) → first_due R (drop i ss) ≡ first_due R ss →
    timer_of make (slice_get ss i) ≡ first_due R ss
timer_here R ss i s make e own before =
    ap (timer_of make) e ∙ sym (own (first_due R (drop (i + 1) ss))) ∙ sym (due_from R ss i s e) ∙ before

-- nor is its own
pub none_here : (R : State) (ss : List SessionFields) (i : ℕ) (s : SessionFields) → slice_get ss i ≡ Some s →
    expiry_of R s ≡ NotDue → is_alive_due R s ≡ false → first_due R (drop i ss) ≡ first_due R ss → first_due R (drop (i + 1) ss) ≡ first_due R ss
none_here R ss i s e stage alive before =
    let later = first_due R (drop (i + 1) ss) in
    sym (ap (λ (x : Expiry). due_by x (is_alive_due R s) s later) stage ∙ ap (λ (b : Bool). due_by NotDue b s later) alive) ∙ sym (due_from R ss i s e) ∙ before

pub none_at_all : (R : State) (ss : List SessionFields) (i : ℕ) → length ss ≤ i → first_due R (drop i ss) ≡ first_due R ss → Nothing_due ≡ first_due R ss
none_at_all R ss i over before = sym (at_drop_all (first_due R) ss i over) ∙ before

-- ---- whether any is due

any_by : (e : Expiry) (alive : Bool) (s : SessionFields) (later : Due) → is_any_due (due_by e alive s later) ≡ (is_expired e || (alive || is_any_due later))
any_by NotDue true s later = refl
any_by NotDue false s later = refl
any_by Again alive s later = refl
any_by Limit alive s later = refl

either_of : (a b c d : Bool) → (a || (b || (c || d))) ≡ ((a || (b || c)) || d)
either_of true b c d = refl
either_of false true c d = refl
either_of false false c d = refl

-- with one more session
pub any_more : (R : State) (ss : List SessionFields) (i : ℕ) (s : SessionFields) (before after stage alive : Bool) → slice_get ss i ≡ Some s →
    is_any_due (first_due R ss) ≡ (before || is_any_due (first_due R (drop i ss))) → stage ≡ is_expired (expiry_of R s) → alive ≡ is_alive_due R s →
    after ≡ (before || (stage || alive)) → is_any_due (first_due R ss) ≡ (after || is_any_due (first_due R (drop (i + 1) ss)))
any_more R ss i s before after stage alive e was of_stage of_alive both =
    let later = first_due R (drop (i + 1) ss) in
    was
    ∙ ap (λ (due : Due). before || is_any_due due) (due_from R ss i s e)
    ∙ ap (λ (b : Bool). before || b) (any_by (expiry_of R s) (is_alive_due R s) s later)
    ∙ ap (λ (b : Bool). before || (b || (is_alive_due R s || is_any_due later))) (sym of_stage)
    ∙ ap (λ (b : Bool). before || (stage || (b || is_any_due later))) (sym of_alive)
    ∙ either_of before stage alive (is_any_due later)
    ∙ ap (λ (b : Bool). b || is_any_due later) (sym both)

-- ---- what a timer that is due says of its session

phase_is_taking : (phase : Phase) → is_receiving_at (at_phase phase) ≡ true → IsTrue (takes_data phase)
phase_is_taking phases.Receiving e = refl
phase_is_taking (phases.Awaiting made) e = absurd cc
phase_is_taking (phases.Executing n) e = absurd cc
phase_is_taking phases.Refused e = absurd cc
phase_is_taking phases.Done e = absurd cc
phase_is_taking (phases.Ended condition) e = absurd cc

stage_is_taking : (stage : Stage) (entry : Option Entry) → is_receiving_at (at_stage stage entry) ≡ true → IsTaking entry
stage_is_taking (stages.Held eof) entry e = absurd cc
stage_is_taking stages.Known None e = absurd cc
stage_is_taking stages.Known (Some x) e = phase_is_taking x.phase e
stage_is_taking (stages.Over ending) entry e = absurd cc
stage_is_taking stages.Waiting entry e = absurd cc

-- a Keep Alive PDU is due while file data is taken
pub alive_is_taking : (R : State) (s : SessionFields) → is_alive_due R s ≡ true → IsTaking (entry_of R.world (session_id s))
alive_is_taking R s due =
    let receiving = is_receiving_at (at_of R.world s) in
    let both = (and_parts (s.header.acknowledged && receiving) (has_passed R.mib.keep_alive R.now s.alive_at) due).0 in
    stage_is_taking s.stage (entry_of R.world (session_id s)) (and_parts s.header.acknowledged receiving both).1

since_by : (interval limit now : ℕ) (timer : Timer) → 1 ≤ interval → expiry interval limit now timer ≡ Again → timer.since + 1 ≤ now
since_by interval limit now timer some again = elim (why interval limit now timer) [
  | Early e ↦ let never : NotDue ≡ Again = sym e ∙ again in absurd cc
  | DueNow e due room ↦ omega (arith, due, some)
  | Over e due full ↦ let never : Limit ≡ Again = sym e ∙ again in absurd cc
]

since_at : (mib : Mib) (checks : ℕ) (acknowledged : Bool) (timer : Timer) (now : ℕ) (at : JointPhase) → IsSet mib →
    expiry_by now timer (terms_at mib checks acknowledged timer at) ≡ Again → timer.since + 1 ≤ now
since_at mib checks acknowledged timer now At_held set e = since_by mib.nak.interval _ now timer set.nak e
since_at mib checks acknowledged timer now At_receiving set e = since_by mib.inactivity.interval _ now timer set.inactivity e
since_at mib checks true timer now (At_awaiting made) set e = since_by mib.nak.interval _ now timer set.nak e
since_at mib checks false timer now (At_awaiting made) set e = since_by mib.check.interval _ now timer set.check e
since_at mib checks acknowledged timer now At_executing set e = absurd cc
since_at mib checks acknowledged timer now At_over set e = absurd cc
since_at mib checks acknowledged timer now At_waiting set e = since_by mib.ack.interval _ now timer set.ack e

-- a timer that expired began before
pub began_before : (R : State) (s : SessionFields) → IsSet R.mib → expiry_of R s ≡ Again → s.timer.since + 1 ≤ R.now
began_before R s set e = since_at R.mib R.world.config.checks s.header.acknowledged s.timer R.now (at_of R.world s) set e
