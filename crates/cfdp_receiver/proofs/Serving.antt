-- Each timer that is due is served once.
use Rattle.std.specs.Prelude.{if◌then◌else◌, nat_le}
use Rattle.std.proofs.Common.{◌≡◌, ◌≢◌, inl, inr, ℕ, ◌+◌, ◌-◌, ◌≤◌, Bool, true, false, ◌&&◌, List, [], ◌∷◌, Option, Some, None, refl, sym, ap, ◌∙◌, arith}
use Rattle.std.proofs.lemmas.Bool.{cond_both, cond-true, cond-false, cases_Bool, lt-ltb, lt-leb, both_ways}
use Rattle.std.proofs.lemmas.Option.{none-some}
use Rattle.cfdp_status.specs.declared.transaction.TransactionId.{TransactionId}
use Rattle.cfdp_leases.specs.Leases.{is_same}
use Rattle.cfdp_retransmission.specs.declared.timer.Expiry.{Expiry}
use Rattle.cfdp_retransmission.specs.declared.timer.Expiry.TheVariants.{NotDue, Again, Limit}
use Rattle.cfdp_retransmission.specs.declared.timer.Timer.{Timer}
use Rattle.cfdp_retransmission.specs.Timers.{expiry, passed, restarted}
use Rattle.cfdp_retransmission.proofs.Waiting.{Early, Due, Over, why}
use Rattle.cfdp_sessions.specs.Sessions.{SessionFields, session_id, found, replaced, without_session, AreDistinct}
use Rattle.cfdp_sessions.specs.declared.session.Stage.{Stage}
use Rattle.cfdp_sessions.specs.declared.session.Stage.TheVariants.{Held, Known, Over as OverStage, Waiting}
use Rattle.cfdp_sessions.proofs.Names.{IsMember, member_found}
use Rattle.cfdp_transactions.specs.Config.{Config}
use Rattle.cfdp_transactions.specs.Delivery.{checked, check_at}
use Rattle.cfdp_transactions.specs.Ending.{cancelled, ended, ends}
use Rattle.cfdp_transactions.specs.Entry.{Entry, is_live}
use Rattle.cfdp_transactions.specs.Entry as Entries
use Rattle.cfdp_transactions.specs.declared.event.Event.{Event}
use Rattle.cfdp_transactions.specs.declared.event.Event.TheVariants.{Cancel, Check}
use Rattle.cfdp_transactions.specs.declared.phase.Phase.{Phase}
use Rattle.cfdp_transactions.specs.declared.phase.Phase.TheVariants.{Receiving, Awaiting, Executing, Refused, Done, Ended}
use Rattle.cfdp_transactions.specs.declared.reply.Reply.{Reply}
use Rattle.cfdp_transactions.specs.Headline.{NextIsSound, NextIsPromised}
use Rattle.cfdp_transactions.specs.Next.{next, run}
use Rattle.cfdp_transactions.specs.Sound.{Sound}
use Rattle.cfdp_transactions.specs.World.{World, entry_of, index_of}
use Rattle.cfdp_transactions.proofs.Finding.{found_name}
use Rattle.cfdp_transactions.proofs.Lookups.{set_own}
use Rattle.cfdp_receiver.specs.declared.mib.Handler.{Handler}
use Rattle.cfdp_receiver.specs.declared.mib.Handler.TheVariants as handlers
use Rattle.cfdp_receiver.specs.declared.mib.Mib.{Mib}
use Rattle.cfdp_receiver.specs.State.{State, AnswerFields, JointPhase, At_held, At_receiving, At_awaiting, At_executing, At_over, At_waiting, at_phase, at_entry, at_stage, at_of}
use Rattle.cfdp_receiver.specs.Due as Dues
use Rattle.cfdp_receiver.specs.Due.{IsSet}
use Rattle.cfdp_receiver.specs.Handing as Handing
use Rattle.cfdp_receiver.specs.Turning as Turning
use Rattle.cfdp_receiver.specs.Laws.{is_due, due_of, timers_due, ServedOnce}
use Rattle.cfdp_receiver.proofs.AnswerParts.{silent}
use Rattle.cfdp_receiver.proofs.FinishedSentAtMost.{stage_due, alive_due}
use Rattle.cfdp_leases.proofs.Held.{same_itself}
use Rattle.cfdp_leases.proofs.Admitted.{same_is}
use Rattle.cfdp_pdus.specs.Bits.{one_if}

-- ---- sums over sessions

-- of a session of another name
abbrev AlikeBut : State → State → SessionFields → List SessionFields → Type 0
AlikeBut N R s ss = (t : SessionFields) → IsMember t ss → is_same (session_id t) (session_id s) ≡ false → due_of N t ≡ due_of R t

-- none of these has the name
none_named : (ss : List SessionFields) (t s : SessionFields) → AreDistinct ss → found ss (session_id s) ≡ None → IsMember t ss → is_same (session_id t)
    (session_id s)
    ≡ false
none_named ss t s d none member = elim (cases_Bool (is_same (session_id t) (session_id s))) [
  | inl same ↦ absurd (none-some t (sym none ∙ ap (found ss) (sym (same_is (session_id t) (session_id s) same)) ∙ member_found ss t d member))
  | inr other ↦ other
]

sum_alike : (N R : State) (ss : List SessionFields) → ((t : SessionFields) → IsMember t ss → due_of N t ≡ due_of R t) → timers_due N ss ≡ timers_due R ss
sum_alike N R [] alike = refl
sum_alike N R (x ∷ xs) alike = omega (arith, alike x (inl refl), sum_alike N R xs (λ t m. alike t (inr m)))

-- the first of that name is the member
first_is : (x : SessionFields) (xs : List SessionFields) (s : SessionFields) → AreDistinct (x ∷ xs) → IsMember s (x ∷ xs) → is_same (session_id x)
    (session_id s)
    ≡ true → x ≡ s
first_is x xs s d (inl e) same = e
first_is x xs s d (inr m) same =
    absurd (none-some s (sym d.0 ∙ ap (found xs) (same_is (session_id x) (session_id s) same) ∙ member_found xs s d.1 m))

later_is : (x : SessionFields) (xs : List SessionFields) (s : SessionFields) → IsMember s (x ∷ xs) → is_same (session_id x) (session_id s) ≡ false →
    IsMember s xs
later_is x xs s (inl e) other = absurd (both_ways (is_same (session_id x) (session_id s)) other
    (ap (λ (y : SessionFields). is_same (session_id y) (session_id s)) e
    ∙ same_itself (session_id s)))
later_is x xs s (inr m) other = m

rest_alike : (N R : State) (x : SessionFields) (xs : List SessionFields) (s : SessionFields) → AreDistinct (x ∷ xs) → is_same (session_id x) (session_id s)
    ≡ true →
    AlikeBut N R s (x ∷ xs) →
    timers_due N xs ≡ timers_due R xs
rest_alike N R x xs s d same alike =
    let none : found xs (session_id s) ≡ None = ap (found xs) (sym (same_is (session_id x) (session_id s) same)) ∙ d.0 in
    sum_alike N R xs (λ t m. alike t (inr m) (none_named xs t s d.1 none m))

sum_replaced : (N R : State) (ss : List SessionFields) (s new : SessionFields) → AreDistinct ss → IsMember s ss → session_id new ≡ session_id s →
    AlikeBut N R s ss →
    timers_due N (replaced ss new) + due_of R s ≡ timers_due R ss + due_of N new
sum_replaced N R [] s new d m name alike = elim m [ ]
sum_replaced N R (x ∷ xs) s new d m name alike = elim (cases_Bool (is_same (session_id x) (session_id new))) [
  | inl here ↦
      let same : is_same (session_id x) (session_id s) ≡ true = ap (is_same (session_id x)) (sym name) ∙ here in
      let it : due_of R x ≡ due_of R s = ap (due_of R) (first_is x xs s d m same) in
      let now : timers_due N (replaced (x ∷ xs) new) ≡ due_of N new + timers_due N xs =
      ap (timers_due N) (cond-true (is_same (session_id x) (session_id new)) (new ∷ xs) (x ∷ replaced xs new) here) in
      omega (arith, now, it, rest_alike N R x xs s d same alike)
  | inr there ↦
      let other : is_same (session_id x) (session_id s) ≡ false = ap (is_same (session_id x)) (sym name) ∙ there in
      let now : timers_due N (replaced (x ∷ xs) new) ≡ due_of N x + timers_due N (replaced xs new) =
      ap (timers_due N) (cond-false (is_same (session_id x) (session_id new)) (new ∷ xs) (x ∷ replaced xs new) there) in
      omega (arith, now, alike x (inl refl) other, sum_replaced N R xs s new d.1 (later_is x xs s m other) name (λ t n. alike t (inr n)))
]

sum_without : (N R : State) (ss : List SessionFields) (s : SessionFields) → AreDistinct ss → IsMember s ss → AlikeBut N R s ss →
    timers_due N (without_session ss (session_id s)) + due_of R s ≡ timers_due R ss
sum_without N R [] s d m alike = elim m [ ]
sum_without N R (x ∷ xs) s d m alike = elim (cases_Bool (is_same (session_id x) (session_id s))) [
  | inl here ↦
      let it : due_of R x ≡ due_of R s = ap (due_of R) (first_is x xs s d m here) in
      let now : timers_due N (without_session (x ∷ xs) (session_id s)) ≡ timers_due N xs =
      ap (timers_due N) (cond-true (is_same (session_id x) (session_id s)) xs (x ∷ without_session xs (session_id s)) here) in
      omega (arith, now, it, rest_alike N R x xs s d here alike)
  | inr there ↦
      let now : timers_due N (without_session (x ∷ xs) (session_id s)) ≡ due_of N x + timers_due N (without_session xs (session_id s)) =
      ap (timers_due N) (cond-false (is_same (session_id x) (session_id s)) xs (x ∷ without_session xs (session_id s)) there) in
      omega (arith, now, alike x (inl refl) there, sum_without N R xs s d.1 (later_is x xs s m there) (λ t n. alike t (inr n)))
]

-- ---- a timer that was begun now

fresh_by : (now interval limit : ℕ) (timer : Timer) → timer.since ≡ now → 1 ≤ interval → expiry interval limit now timer ≡ NotDue
fresh_by now interval limit timer e some = rw (lt-ltb now (timer.since + interval) (omega (arith, e, some))) refl

fresh : (mib : Mib) (checks now : ℕ) (acknowledged : Bool) (timer : Timer) (at : JointPhase) → IsSet mib → timer.since ≡ now →
    Dues.expiry_by now timer (Dues.terms_at mib checks acknowledged timer at) ≡ NotDue
fresh mib checks now true timer At_held h e = fresh_by now mib.nak.interval mib.nak.limit timer e h.nak
fresh mib checks now false timer At_held h e = fresh_by now mib.nak.interval mib.nak.limit timer e h.nak
fresh mib checks now true timer At_receiving h e = fresh_by now mib.inactivity.interval 1 timer e h.inactivity
fresh mib checks now false timer At_receiving h e = fresh_by now mib.inactivity.interval 1 timer e h.inactivity
fresh mib checks now true timer (At_awaiting made) h e = fresh_by now mib.nak.interval mib.nak.limit timer e h.nak
fresh mib checks now false timer (At_awaiting made) h e = fresh_by now mib.check.interval (Dues.check_limit checks made timer) timer e h.check
fresh mib checks now true timer At_executing h e = refl
fresh mib checks now false timer At_executing h e = refl
fresh mib checks now true timer At_over h e = refl
fresh mib checks now false timer At_over h e = refl
fresh mib checks now true timer At_waiting h e = fresh_by now mib.ack.interval mib.ack.limit timer e h.ack
fresh mib checks now false timer At_waiting h e = fresh_by now mib.ack.interval mib.ack.limit timer e h.ack

-- Keep Alive was sent now
sent_now : (keep : Option ℕ) (now : ℕ) → ((interval : ℕ) → keep ≡ Some interval → 1 ≤ interval) → Dues.has_passed keep now now ≡ false
sent_now None now h = refl
sent_now (Some interval) now h = lt-leb (now + interval) now (omega (arith, h interval refl))

over_terms : (R : State) (s : SessionFields) (acknowledged : Bool) →
    Dues.expiry_by R.now s.timer (Dues.terms_at R.mib R.world.config.checks acknowledged s.timer At_over) ≡ NotDue
over_terms R s true = refl
over_terms R s false = refl

over_alive : (acknowledged passed : Bool) → (acknowledged && Dues.is_receiving_at At_over && passed) ≡ false
over_alive true passed = refl
over_alive false passed = refl

no_alive : (acknowledged receiving : Bool) → (acknowledged && receiving && false) ≡ false
no_alive true true = refl
no_alive true false = refl
no_alive false receiving = refl

-- a session that is over has none
over_none : (R : State) (s : SessionFields) → at_of R.world s ≡ At_over → due_of R s ≡ 0
over_none R s over =
    let terms : Dues.expiry_of R s ≡ NotDue =
    ap (λ (at : JointPhase). Dues.expiry_by R.now s.timer (Dues.terms_at R.mib R.world.config.checks s.header.acknowledged s.timer at)) over
    ∙ over_terms R s s.header.acknowledged in
    let alive : Dues.is_alive_due R s ≡ false =
    ap (λ (at : JointPhase). s.header.acknowledged && Dues.is_receiving_at at && Dues.has_passed R.mib.keep_alive R.now s.alive_at) over
    ∙ over_alive s.header.acknowledged (Dues.has_passed R.mib.keep_alive R.now s.alive_at) in
    omega (arith, ap is_due terms, ap one_if alive)

-- ---- what an expiry hands on

-- nothing, or one event of this transaction
data Own (es : List Event) (id : TransactionId) : Type 0 where
  None_own : (e : es ≡ []) → Own es id
  Cancel_own : (e : es ≡ Cancel id ∷ []) → Own es id
  Check_own : (e : es ≡ Check id ∷ []) → Own es id

own_known : (stage : Stage) (es : List Event) (id : TransactionId) → Own es id → Own (Handing.where_known stage es) id
own_known (Held eof) es id o = None_own refl
own_known Known es id o = o
own_known (OverStage ending) es id o = None_own refl
own_known Waiting es id o = None_own refl

own_check : (b : Bool) (id : TransactionId) → Own (if b then Check id ∷ [] else []) id
own_check true id = Check_own refl
own_check false id = None_own refl

own_limit : (id : TransactionId) (checks : Bool) (how : Handler) → Own (Handing.limit_events id checks how) id
own_limit id checks handlers.Ignore = None_own refl
own_limit id true handlers.Cancel = Check_own refl
own_limit id false handlers.Cancel = Cancel_own refl
own_limit id true handlers.Abandon = Cancel_own refl
own_limit id false handlers.Abandon = Cancel_own refl

-- the configuration stays
config_cancelled : (W : World) (k : ℕ) (o : Option Entry) → (cancelled W k o).0.config ≡ W.config
config_cancelled W k None = refl
config_cancelled W k (Some e) = cond_both (is_live e.phase) (ends W k e 15, _) (W, _) (λ (a : World × Reply). a.0.config ≡ W.config) (λ h. refl) (λ h. refl)

config_checked_at : (phase : Phase) (W : World) (k : ℕ) (e : Entry) → (check_at phase W k e).0.config ≡ W.config
config_checked_at Receiving W k e = refl
config_checked_at (Awaiting made) W k e = cond_both (nat_le W.config.checks (made + 1)) (ends W k e 10, _) _ (λ (a : World × Reply). a.0.config ≡ W.config)
    (λ h. refl) (λ h. refl)
config_checked_at (Executing n) W k e = refl
config_checked_at Refused W k e = refl
config_checked_at Done W k e = refl
config_checked_at (Ended condition) W k e = refl

config_checked : (W : World) (k : ℕ) (o : Option Entry) → (checked W k o).0.config ≡ W.config
config_checked W k None = refl
config_checked W k (Some e) = config_checked_at e.phase W k e

-- ---- the others

abbrev in_world : State → World → State
in_world R V = record R { world = V }

abbrev due_at : State → SessionFields → ℕ → JointPhase → ℕ
due_at R t checks at =
    is_due (Dues.expiry_by R.now t.timer (Dues.terms_at R.mib checks t.header.acknowledged t.timer at))
    + one_if (t.header.acknowledged && Dues.is_receiving_at at && Dues.has_passed R.mib.keep_alive R.now t.alive_at)

alike_by : (R : State) (V : World) (t : SessionFields) → V.config ≡ R.world.config → entry_of V (session_id t) ≡ entry_of R.world (session_id t) →
    due_of (in_world R V) t ≡ due_of R t
alike_by R V t config entry =
    ap (λ (c : Config). due_at R t c.checks (at_of V t)) config ∙ ap (λ (o : Option Entry). due_at R t R.world.config.checks (at_stage t.stage o)) entry

other_name : (t s : SessionFields) → is_same (session_id t) (session_id s) ≡ false → session_id t ≢ session_id s
other_name t s other e = both_ways (is_same (session_id t) (session_id s)) other (ap (λ (n : TransactionId). is_same n (session_id s)) e ∙ same_itself
    (session_id s))

alike_own : NextIsPromised → (R : State) (s : SessionFields) (es : List Event) → Sound R.world → Own es (session_id s) →
    AlikeBut (in_world R (run R.world es)) R s R.sessions
alike_own promised R s es sound (None_own e) t m other = alike_by R (run R.world es) t (ap (λ (vs : List Event). (run R.world vs).config) e)
    (ap (λ (vs : List Event). entry_of (run R.world vs) (session_id t)) e)
alike_own promised R s es sound (Cancel_own e) t m other =
    alike_by R (run R.world es) t
    (ap (λ (vs : List Event). (run R.world vs).config) e ∙ config_cancelled R.world (index_of R.world (session_id s)) (entry_of R.world (session_id s)))
    (ap (λ (vs : List Event). entry_of (run R.world vs) (session_id t)) e ∙ (promised R.world (Cancel (session_id s)) sound).others (session_id t)
    (other_name t s other))
alike_own promised R s es sound (Check_own e) t m other =
    alike_by R (run R.world es) t
    (ap (λ (vs : List Event). (run R.world vs).config) e ∙ config_checked R.world (index_of R.world (session_id s)) (entry_of R.world (session_id s)))
    (ap (λ (vs : List Event). entry_of (run R.world vs) (session_id t)) e ∙ (promised R.world (Check (session_id s)) sound).others (session_id t)
    (other_name t s other))

-- ---- the session itself, at its limit

-- a transaction that ended is over
over_ended : (W : World) (s : SessionFields) (e : Entry) (condition : ℕ) → s.stage ≡ Known → entry_of W (session_id s) ≡ Some e →
    at_of (ends W (index_of W (session_id s)) e condition) s ≡ At_over
over_ended W s e condition known here =
    let id = session_id s in
    let new = ended W.filestore e condition in
    let name : Entries.name_of new ≡ id = found_name W.table id e here in
    ap (λ (stage : Stage). at_stage stage (entry_of (ends W (index_of W id) e condition) id)) known
    ∙ ap at_entry (set_own W.table id e new name here)

over_cancelled : (W : World) (s : SessionFields) (e : Entry) → s.stage ≡ Known → entry_of W (session_id s) ≡ Some e → is_live e.phase ≡ true →
    at_of (next W (Cancel (session_id s))).0 s ≡ At_over
over_cancelled W s e known here live =
    let k = index_of W (session_id s) in
    ap (λ (o : Option Entry). at_of (cancelled W k o).0 s) here
    ∙ ap (λ (a : World × Reply). at_of a.0 s) (cond-true (is_live e.phase) (ends W k e 15, _) (W, _) live)
    ∙ over_ended W s e 15 known here

over_checked : (W : World) (s : SessionFields) (e : Entry) (made : ℕ) → s.stage ≡ Known → entry_of W (session_id s) ≡ Some e → e.phase ≡ Awaiting made →
    nat_le W.config.checks (made + 1) ≡ true →
    at_of (next W (Check (session_id s))).0 s ≡ At_over
over_checked W s e made known here phase all =
    let k = index_of W (session_id s) in
    ap (λ (o : Option Entry). at_of (checked W k o).0 s) here
    ∙ ap (λ (p : Phase). at_of (check_at p W k e).0 s) phase
    ∙ ap (λ (a : World × Reply). at_of a.0 s) (cond-true (nat_le W.config.checks (made + 1)) (ends W k e 10, _) _ all)
    ∙ over_ended W s e 10 known here

-- a session that takes data is known, and so is its phase
record Takes (W : World) (s : SessionFields) (phase : Phase) : Type 0 where
  known : s.stage ≡ Known
  entry : Entry
  here : entry_of W (session_id s) ≡ Some entry
  is : entry.phase ≡ phase

phase_receiving : (phase : Phase) → at_phase phase ≡ At_receiving → phase ≡ Receiving
phase_receiving Receiving e = refl
phase_receiving (Awaiting made) e = absurd cc
phase_receiving (Executing n) e = absurd cc
phase_receiving Refused e = absurd cc
phase_receiving Done e = absurd cc
phase_receiving (Ended condition) e = absurd cc

abbrev made_in : JointPhase → ℕ
made_in (At_awaiting made) = made
made_in at = 0

phase_awaiting : (phase : Phase) (made : ℕ) → at_phase phase ≡ At_awaiting made → phase ≡ Awaiting made
phase_awaiting Receiving made e = absurd cc
phase_awaiting (Awaiting n) made e = ap Awaiting (ap made_in e)
phase_awaiting (Executing n) made e = absurd cc
phase_awaiting Refused made e = absurd cc
phase_awaiting Done made e = absurd cc
phase_awaiting (Ended condition) made e = absurd cc

takes_receiving : (W : World) (s : SessionFields) (stage : Stage) (o : Option Entry) → s.stage ≡ stage → entry_of W (session_id s) ≡ o → at_stage stage o
    ≡ At_receiving → Takes W s Receiving
takes_receiving W s (Held eof) o known here at = absurd cc
takes_receiving W s Known None known here at = absurd cc
takes_receiving W s Known (Some e) known here at = record { known = known; entry = e; here = here; is = phase_receiving e.phase at }
takes_receiving W s (OverStage ending) o known here at = absurd cc
takes_receiving W s Waiting o known here at = absurd cc

takes_awaiting : (W : World) (s : SessionFields) (stage : Stage) (o : Option Entry) (made : ℕ) → s.stage ≡ stage → entry_of W (session_id s) ≡ o →
    at_stage stage o
    ≡ At_awaiting made → Takes W s (Awaiting made)
takes_awaiting W s (Held eof) o made known here at = absurd cc
takes_awaiting W s Known None made known here at = absurd cc
takes_awaiting W s Known (Some e) made known here at = record { known = known; entry = e; here = here; is = phase_awaiting e.phase made at }
takes_awaiting W s (OverStage ending) o made known here at = absurd cc
takes_awaiting W s Waiting o made known here at = absurd cc

-- at the limit of checks the core's count is there
pub full_of : (interval limit now : ℕ) (timer : Timer) → expiry interval limit now timer ≡ Limit → limit ≤ timer.count + 1
full_of interval limit now timer limited = elim (why interval limit now timer) [
  | Early e ↦ let never : NotDue ≡ Limit = sym e ∙ limited in absurd cc
  | Due e due room ↦ let never : Again ≡ Limit = sym e ∙ limited in absurd cc
  | Over e due full ↦ full
]

all_checks : (checks made : ℕ) (timer : Timer) → Dues.check_limit checks made timer ≤ timer.count + 1 → nat_le checks (made + 1) ≡ true
all_checks checks made timer full = elim (cases_Bool (nat_le checks (made + 1))) [
  | inl all ↦ all
  | inr few ↦ absurd (omega (arith, full, cond-false (nat_le checks (made + 1)) (timer.count + 1) (timer.count + 2) few))
]

-- its timer, by how far it is
expiry_at : (R : State) (s : SessionFields) (acknowledged : Bool) (at : JointPhase) → s.header.acknowledged ≡ acknowledged → at_of R.world s ≡ at →
    Dues.expiry_of R s ≡ Dues.expiry_by R.now s.timer (Dues.terms_at R.mib R.world.config.checks acknowledged s.timer at)
expiry_at R s acknowledged at mode is =
    ap (λ (b : Bool). Dues.expiry_by R.now s.timer (Dues.terms_at R.mib R.world.config.checks b s.timer (at_of R.world s))) mode
    ∙ ap (λ (a : JointPhase). Dues.expiry_by R.now s.timer (Dues.terms_at R.mib R.world.config.checks acknowledged s.timer a)) is

-- ---- fewer are due

abbrev Fewer : State → World → Turning.Parts → Type 0
Fewer R V p = timers_due (in_world R V) p.sessions + 1 ≤ timers_due R R.sessions

fewer_put : (R : State) (V : World) (s new : SessionFields) (a : AnswerFields) → AreDistinct R.sessions → IsMember s R.sessions → session_id new ≡ session_id s
    →
    AlikeBut (in_world R V) R s R.sessions →
    due_of (in_world R V) new + 1 ≤ due_of R s → Fewer R V (Turning.replaces_one R new a)
fewer_put R V s new a d m name alike less = omega (arith, sum_replaced (in_world R V) R R.sessions s new d m name alike, less)

fewer_closed : (R : State) (V : World) (s : SessionFields) (a : AnswerFields) → AreDistinct R.sessions → IsMember s R.sessions →
    AlikeBut (in_world R V) R s R.sessions →
    1 ≤ due_of R s → Fewer R V (Turning.closes R s a)
fewer_closed R V s a d m alike some = omega (arith, sum_without (in_world R V) R R.sessions s d m alike, some)

abbrev alive_part : State → SessionFields → ℕ
alive_part R s = one_if (Dues.is_alive_due R s)

pub none_known : (stage : Stage) → Handing.where_known stage [] ≡ []
none_known (Held eof) = refl
none_known Known = refl
none_known (OverStage ending) = refl
none_known Waiting = refl

-- a timer that begins anew, in a world in which Keep Alive is not due where it was not
renewed : (R : State) (V : World) (s new : SessionFields) → IsSet R.mib → new.timer.since ≡ R.now → alive_part (in_world R V) new ≤ alive_part R s →
    1 ≤ is_due (Dues.expiry_of R s) →
    due_of (in_world R V) new + 1 ≤ due_of R s
renewed R V s new set begun alive due =
    omega (arith, ap is_due (fresh R.mib V.config.checks R.now new.header.acknowledged new.timer (at_of V new) set begun), alive, due)

again_due : (b : Bool) (e : Expiry) → e ≡ (if b then Limit else Again) → 1 ≤ is_due e
again_due true e h = omega (arith, ap is_due h)
again_due false e h = omega (arith, ap is_due h)

un_alive : (receiving passed : Bool) → (false && receiving && passed) ≡ false
un_alive receiving passed = refl

-- Keep Alive is due of no session that is unacknowledged
alive_un : (R : State) (s : SessionFields) → s.header.acknowledged ≡ false → alive_part R s ≡ 0
alive_un R s mode =
    ap (λ (b : Bool). one_if (b && Dues.is_receiving_at (at_of R.world s) && Dues.has_passed R.mib.keep_alive R.now s.alive_at)) mode
    ∙ ap one_if (un_alive (Dues.is_receiving_at (at_of R.world s)) (Dues.has_passed R.mib.keep_alive R.now s.alive_at))

-- below the limit
serves_again : NextIsPromised → (R : State) (s : SessionFields) (acknowledged : Bool) → IsSet R.mib → Sound R.world → AreDistinct R.sessions →
    IsMember s R.sessions → s.header.acknowledged ≡ acknowledged →
    1 ≤ is_due (Dues.expiry_of R s) → Fewer R (run R.world (Handing.due_events R (Dues.Stage_due s false)))
    (Turning.due_parts R (run R.world (Handing.due_events R (Dues.Stage_due s false))) (Dues.Stage_due s false))
serves_again promised R s true set sound d m mode due =
    let es = Handing.due_events R (Dues.Stage_due s false) in
    let new : SessionFields = record s { timer = passed R.now s.timer Again } in
    let none : es ≡ [] =
    ap (λ (b : Bool). Handing.where_known s.stage (if Handing.makes_checks b (at_of R.world s) then Check (session_id s) ∷ [] else [])) mode
    ∙ none_known s.stage in
    let alike = alike_own promised R s es sound (None_own none) in
    let same : alive_part (in_world R (run R.world es)) new ≡ alive_part R s = ap (λ (vs : List Event). alive_part (in_world R (run R.world vs)) new) none in
    fewer_put R (run R.world es) s new (Turning.repeats R (run R.world es) s (at_of R.world s)) d m refl alike
    (renewed R (run R.world es) s new set refl (omega (arith, same)) due)
serves_again promised R s false set sound d m mode due =
    let es = Handing.due_events R (Dues.Stage_due s false) in
    let new : SessionFields = record s { timer = passed R.now s.timer Again } in
    let own : Own es (session_id s) = own_known s.stage _ (session_id s) (own_check (Handing.makes_checks s.header.acknowledged (at_of R.world s))
    (session_id s)) in
    fewer_put R (run R.world es) s new (Turning.repeats R (run R.world es) s (at_of R.world s)) d m refl (alike_own promised R s es sound own)
    (renewed R (run R.world es) s new set refl (omega (arith, alive_un (in_world R (run R.world es)) new mode)) due)

-- at the limit
abbrev limit_events_of : State → SessionFields → Bool → JointPhase → Handler → List Event
limit_events_of R s acknowledged at how = Handing.where_known s.stage (Handing.limit_events (session_id s) (Handing.makes_checks acknowledged at) how)

abbrev Gives : State → SessionFields → Bool → JointPhase → Handler → Type 0
Gives R s acknowledged at how =
    let V = run R.world (limit_events_of R s acknowledged at how) in
    Fewer R V (Turning.gives_up R s (Dues.fault_at acknowledged at) how at)

-- a change of the session after which it is over
over_put : NextIsPromised → (R : State) (s new : SessionFields) (acknowledged : Bool) (at : JointPhase) (how : Handler) (a : AnswerFields) → Sound R.world →
    AreDistinct R.sessions → IsMember s R.sessions →
    session_id new ≡ session_id s → at_of (run R.world (limit_events_of R s acknowledged at how)) new ≡ At_over → 1 ≤ is_due (Dues.expiry_of R s) →
    Fewer R (run R.world (limit_events_of R s acknowledged at how)) (Turning.replaces_one R new a)
over_put promised R s new acknowledged at how a sound d m name over due =
    let es = limit_events_of R s acknowledged at how in
    let own : Own es (session_id s) = own_known s.stage _ (session_id s) (own_limit (session_id s) (Handing.makes_checks acknowledged at) how) in
    fewer_put R (run R.world es) s new a d m name (alike_own promised R s es sound own) (omega (arith, over_none (in_world R (run R.world es)) new over, due))

gives_closed : NextIsPromised → (R : State) (s : SessionFields) (acknowledged : Bool) (at : JointPhase) (how : Handler) (a : AnswerFields) → Sound R.world →
    AreDistinct R.sessions → IsMember s R.sessions →
    1 ≤ is_due (Dues.expiry_of R s) → Fewer R (run R.world (limit_events_of R s acknowledged at how)) (Turning.closes R s a)
gives_closed promised R s acknowledged at how a sound d m due =
    let es = limit_events_of R s acknowledged at how in
    let own : Own es (session_id s) = own_known s.stage _ (session_id s) (own_limit (session_id s) (Handing.makes_checks acknowledged at) how) in
    fewer_closed R (run R.world es) s a d m (alike_own promised R s es sound own) (omega (arith, due))

gives_ignored : NextIsPromised → (R : State) (s : SessionFields) (acknowledged : Bool) (at : JointPhase) (a : AnswerFields) → IsSet R.mib → Sound R.world →
    AreDistinct R.sessions → IsMember s R.sessions →
    1 ≤ is_due (Dues.expiry_of R s) → Fewer R (run R.world (limit_events_of R s acknowledged at handlers.Ignore))
    (Turning.replaces_one R (record s { timer = restarted R.now }) a)
gives_ignored promised R s acknowledged at a set sound d m due =
    let es = limit_events_of R s acknowledged at handlers.Ignore in
    let new : SessionFields = record s { timer = restarted R.now } in
    let none : es ≡ [] = none_known s.stage in
    let same : alive_part (in_world R (run R.world es)) new ≡ alive_part R s = ap (λ (vs : List Event). alive_part (in_world R (run R.world vs)) new) none in
    fewer_put R (run R.world es) s new a d m refl (alike_own promised R s es sound (None_own none))
    (renewed R (run R.world es) s new set refl (omega (arith, same)) due)

-- the event that ends it, where the session is known
ended_by_cancel : (R : State) (s : SessionFields) (phase : Phase) → Takes R.world s phase → is_live phase ≡ true →
    at_of (run R.world (Handing.where_known s.stage (Cancel (session_id s) ∷ []))) s ≡ At_over
ended_by_cancel R s phase takes live =
    ap (λ (stage : Stage). at_of (run R.world (Handing.where_known stage (Cancel (session_id s) ∷ []))) s) takes.known
    ∙ over_cancelled R.world s takes.entry takes.known takes.here (ap is_live takes.is ∙ live)

ended_by_check : (R : State) (s : SessionFields) (made : ℕ) → Takes R.world s (Awaiting made) → nat_le R.world.config.checks (made + 1) ≡ true →
    at_of (run R.world (Handing.where_known s.stage (Check (session_id s) ∷ []))) s ≡ At_over
ended_by_check R s made takes all =
    ap (λ (stage : Stage). at_of (run R.world (Handing.where_known stage (Check (session_id s) ∷ []))) s) takes.known
    ∙ over_checked R.world s takes.entry made takes.known takes.here takes.is all

never_due : (e : Expiry) → e ≡ NotDue → 1 ≤ is_due e → ⊥
never_due e h due = absurd (omega (arith, ap is_due h, due))

gives : NextIsPromised → (R : State) (s : SessionFields) (acknowledged : Bool) (at : JointPhase) (how : Handler) → IsSet R.mib → Sound R.world →
    AreDistinct R.sessions → IsMember s R.sessions →
    s.header.acknowledged ≡ acknowledged → at_of R.world s ≡ at → Dues.expiry_of R s ≡ Limit → 1 ≤ is_due (Dues.expiry_of R s) → Gives R s acknowledged at how
gives promised R s acknowledged at handlers.Ignore set sound d m mode is limited due = gives_ignored promised R s acknowledged at silent set sound d m due
gives promised R s acknowledged At_waiting handlers.Cancel set sound d m mode is limited due =
    gives_closed promised R s acknowledged At_waiting handlers.Cancel silent sound d m due
gives promised R s acknowledged At_waiting handlers.Abandon set sound d m mode is limited due =
    gives_closed promised R s acknowledged At_waiting handlers.Abandon silent sound d m due
gives promised R s acknowledged At_held handlers.Cancel set sound d m mode is limited due =
    over_put promised R s (Turning.over_here R s (Dues.fault_at acknowledged At_held)) acknowledged At_held handlers.Cancel silent sound d m refl refl due
gives promised R s acknowledged At_held handlers.Abandon set sound d m mode is limited due =
    gives_closed promised R s acknowledged At_held handlers.Abandon silent sound d m due
gives promised R s true At_receiving handlers.Cancel set sound d m mode is limited due =
    over_put promised R s (record s { cause = Some (Dues.fault_at true At_receiving) }) true At_receiving handlers.Cancel silent sound d m refl
    (ended_by_cancel R s Receiving (takes_receiving R.world s s.stage (entry_of R.world (session_id s)) refl refl is) refl) due
gives promised R s false At_receiving handlers.Cancel set sound d m mode is limited due =
    over_put promised R s (record s { cause = Some (Dues.fault_at false At_receiving) }) false At_receiving handlers.Cancel silent sound d m refl
    (ended_by_cancel R s Receiving (takes_receiving R.world s s.stage (entry_of R.world (session_id s)) refl refl is) refl) due
gives promised R s true At_receiving handlers.Abandon set sound d m mode is limited due =
    over_put promised R s (record s { is_abandoned = true }) true At_receiving handlers.Abandon silent sound d m refl
    (ended_by_cancel R s Receiving (takes_receiving R.world s s.stage (entry_of R.world (session_id s)) refl refl is) refl) due
gives promised R s false At_receiving handlers.Abandon set sound d m mode is limited due =
    over_put promised R s (record s { is_abandoned = true }) false At_receiving handlers.Abandon silent sound d m refl
    (ended_by_cancel R s Receiving (takes_receiving R.world s s.stage (entry_of R.world (session_id s)) refl refl is) refl) due
gives promised R s true (At_awaiting made) handlers.Cancel set sound d m mode is limited due =
    over_put promised R s (record s { cause = Some (Dues.fault_at true (At_awaiting made)) }) true (At_awaiting made) handlers.Cancel silent sound d m refl
    (ended_by_cancel R s (Awaiting made) (takes_awaiting R.world s s.stage (entry_of R.world (session_id s)) made refl refl is) refl) due
gives promised R s true (At_awaiting made) handlers.Abandon set sound d m mode is limited due =
    over_put promised R s (record s { is_abandoned = true }) true (At_awaiting made) handlers.Abandon silent sound d m refl
    (ended_by_cancel R s (Awaiting made) (takes_awaiting R.world s s.stage (entry_of R.world (session_id s)) made refl refl is) refl) due
gives promised R s false (At_awaiting made) handlers.Abandon set sound d m mode is limited due =
    over_put promised R s (record s { is_abandoned = true }) false (At_awaiting made) handlers.Abandon silent sound d m refl
    (ended_by_cancel R s (Awaiting made) (takes_awaiting R.world s s.stage (entry_of R.world (session_id s)) made refl refl is) refl) due
gives promised R s false (At_awaiting made) handlers.Cancel set sound d m mode is limited due =
    let indicated = sym (expiry_at R s false (At_awaiting made) mode is) ∙ limited in
    let all = all_checks R.world.config.checks made s.timer (full_of R.mib.check.interval
    (Dues.check_limit R.world.config.checks made s.timer) R.now s.timer indicated) in
    over_put promised R s (record s { cause = Some (Dues.fault_at false (At_awaiting made)) }) false (At_awaiting made) handlers.Cancel silent sound d m refl
    (ended_by_check R s made (takes_awaiting R.world s s.stage (entry_of R.world (session_id s)) made refl refl is) all) due
gives promised R s true At_executing how set sound d m mode is limited due =
    absurd (never_due (Dues.expiry_of R s) (expiry_at R s true At_executing mode is) due)
gives promised R s false At_executing how set sound d m mode is limited due =
    absurd (never_due (Dues.expiry_of R s) (expiry_at R s false At_executing mode is) due)
gives promised R s true At_over how set sound d m mode is limited due = absurd (never_due (Dues.expiry_of R s) (expiry_at R s true At_over mode is) due)
gives promised R s false At_over how set sound d m mode is limited due = absurd (never_due (Dues.expiry_of R s) (expiry_at R s false At_over mode is) due)

-- ---- nothing is due

none_by : (e : Expiry) (alive : Bool) (x : SessionFields) (later : Dues.Due) → Dues.due_by e alive x later ≡ Dues.Nothing_due → (is_due e + one_if alive ≡ 0)
    × (later ≡ Dues.Nothing_due)
none_by Again alive x later e = absurd cc
none_by Limit alive x later e = absurd cc
none_by NotDue true x later e = absurd cc
none_by NotDue false x later e = (refl, e)

none_due : (R : State) (ss : List SessionFields) → Dues.first_due R ss ≡ Dues.Nothing_due → timers_due R ss ≡ 0
none_due R [] e = refl
none_due R (x ∷ xs) e = let both = none_by (Dues.expiry_of R x) (Dues.is_alive_due R x) x (Dues.first_due R xs) e in omega (arith, both.0, none_due R xs both.1)

serves : NextIsPromised → (R : State) (due : Dues.Due) → IsSet R.mib → Sound R.world → AreDistinct R.sessions → Dues.first_due R R.sessions ≡ due →
    timers_due (in_world R (run R.world (Handing.due_events R due))) (Turning.due_parts R (run R.world (Handing.due_events R due)) due).sessions ≤ timers_due R
    R.sessions - 1
serves promised R Dues.Nothing_due set sound d is = omega (arith, none_due R R.sessions is)
serves promised R (Dues.Alive_due s) set sound d is =
    let alive = alive_due R R.sessions s is in
    let new : SessionFields = record s { alive_at = R.now } in
    let before : alive_part R s ≡ 1 = ap one_if alive.1 in
    let after : alive_part R new ≡ 0 =
    ap (λ (b : Bool). one_if (s.header.acknowledged && Dues.is_receiving_at (at_of R.world s) && b)) (sent_now R.mib.keep_alive R.now set.keep_alive)
    ∙ ap one_if (no_alive s.header.acknowledged (Dues.is_receiving_at (at_of R.world s))) in
    omega (arith, sum_replaced R R R.sessions s new d alive.0 refl (λ t m other. refl), before, after)
serves promised R (Dues.Stage_due s false) set sound d is =
    let due = stage_due R R.sessions s false is in
    omega (arith, serves_again promised R s s.header.acknowledged set sound d due.0 refl (again_due false (Dues.expiry_of R s) due.1))
serves promised R (Dues.Stage_due s true) set sound d is =
    let due = stage_due R R.sessions s true is in
    omega (
      arith,
      gives promised R s s.header.acknowledged (at_of R.world s) (Dues.handler_at R.mib s.header.acknowledged (at_of R.world s)) set sound d due.0 refl refl
          due.1 (again_due true (Dues.expiry_of R s) due.1),
    )

pub served_once : NextIsSound → NextIsPromised → ServedOnce
served_once sound_next promised R now set sound d = serves promised (Handing.later now R) (Dues.first_due (Handing.later now R) R.sessions) set sound d refl
