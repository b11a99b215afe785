-- What begins a round: the NAK PDUs of the answer ask for what the transaction lacks.
use Rattle.std.specs.Prelude.{◌==◌}
use Rattle.std.proofs.Common.{◌≡◌, ℕ, ◌+◌, ◌≤◌, Bool, true, false, not, ◌&&◌, ◌||◌, List, [], ◌∷◌, map, Option, Some, refl, sym, ap, subst, ◌∙◌, arith}
use Rattle.std.proofs.lemmas.Bool.{cond-true, cond-false, and_from, eq-eqb}
use Rattle.std.proofs.lemmas.Option.{same_Some}
use Rattle.cfdp_status.specs.declared.transaction.TransactionId.{TransactionId}
use Rattle.cfdp_leases.specs.Leases.{is_same}
use Rattle.cfdp_pdus.specs.Values.{MetadataFields}
use Rattle.cfdp_pdus.specs.declared.eof.Eof.{Eof}
use Rattle.cfdp_pdus.specs.declared.header.Header.{Header}
use Rattle.cfdp_retransmission.specs.Naks.{SegmentRequest, Nak, naks}
use Rattle.cfdp_retransmission.specs.Rounds.{asked_for}
use Rattle.cfdp_retransmission.specs.Timers.{passed, restarted}
use Rattle.cfdp_retransmission.specs.declared.timer.Expiry.TheVariants.{Again, Limit}
use Rattle.cfdp_retransmission.proofs.Waiting.{Due}
use Rattle.cfdp_sessions.specs.Sessions.{SessionFields, session_id, found, replaced, AreDistinct}
use Rattle.cfdp_sessions.specs.declared.session.Stage.{Stage}
use Rattle.cfdp_sessions.specs.declared.session.Stage.TheVariants.{Known}
use Rattle.cfdp_sessions.proofs.Names.{found_name, replaced_self}
use Rattle.cfdp_transactions.specs.Entry.{Entry, id_of, gaps, gaps_in, reach, reach_in, awaited}
use Rattle.cfdp_transactions.specs.Received.{gaps_below}
use Rattle.cfdp_transactions.specs.declared.phase.Phase.{Phase}
use Rattle.cfdp_transactions.specs.declared.phase.Phase.TheVariants.{Awaiting}
use Rattle.cfdp_transactions.specs.Next.{run, replies}
use Rattle.cfdp_transactions.specs.World.{World, entry_of}
use Rattle.cfdp_directives.specs.declared.ack.TransactionStatus.TheVariants.{Active}
use Rattle.cfdp_receiver.specs.declared.indication.Word.TheVariants as words
use Rattle.cfdp_receiver.specs.declared.mib.Mib.{Mib}
use Rattle.cfdp_receiver.specs.declared.joint_phase.JointPhase.{JointPhase}
use Rattle.cfdp_receiver.specs.declared.joint_phase.JointPhase.TheVariants.{Awaiting as At_awaiting}
use Rattle.cfdp_receiver.specs.State.{State, AnswerFields, Input, MetadataPdu, DataPdu, EofPdu, AckPdu, PromptPdu, OtherPdu, Expire, Work, Finish, CancelAsked, ForgetAsked, ClockMoved, NotTaken, session_of, at_of}
use Rattle.cfdp_receiver.specs.Due as Dues
use Rattle.cfdp_receiver.specs.Handing as Handing
use Rattle.cfdp_receiver.specs.Turning as Turning
use Rattle.cfdp_receiver.proofs.FinishedSentAtMost.{stage_due, is_it}
use Rattle.cfdp_receiver.proofs.AnswerParts.{heard_name}
use Rattle.cfdp_progress.specs.Awaiting.{EntryAwaits, TransactionAwaits}
use Rattle.cfdp_directives.specs.Reading.{NakFields}
use Rattle.cfdp_progress.specs.NakRounds.{requests_of_each, IsServed, EofOpens, MetadataOpens, Opens, naks_of_opening}
use Rattle.cfdp_progress.proofs.Turns.{no_cancel, Before, at_is, at_in, asks_none, heard_is}
use Rattle.cfdp_progress.proofs.Runs.{before_of}
use Rattle.cfdp_receiver.proofs.NaksAsk.{from_zero, with_header}
use Rattle.cfdp_receiver.proofs.Serving.{full_of}
use Rattle.cfdp_leases.proofs.Held.{same_itself}

-- ---- the requests of a sequence for its gaps

requests_are : (h : Header) (xs : List Nak) → requests_of_each (map (with_header h) xs) ≡ map (λ (n : Nak). n.requests) xs
requests_are h [] = refl
requests_are h (x ∷ xs) = ap (λ (rest : List (List SegmentRequest)). x.requests ∷ rest) (requests_are h xs)

abbrev Requests : ℕ → ℕ → List SegmentRequest → List (List SegmentRequest)
Requests most high found = map (λ (n : Nak). n.requests) (naks most 0 high found)

sequence_asks : (mib : Mib) (h : Header) (e : Entry) (eof : Eof) (checks : ℕ) → e.phase ≡ Awaiting checks → e.eof ≡ Some eof →
    requests_of_each (Turning.sequence mib h 0 (reach e) (Turning.gaps_after 0 e)) ≡ asked_for (Turning.most_nak_requests mib) eof.size e.received
sequence_asks mib h e eof checks phase came =
    let most = Turning.most_nak_requests mib in
    requests_are h (naks most 0 (reach e) (Turning.gaps_after 0 e))
    ∙ ap (Requests most (reach e)) (from_zero (gaps e))
    ∙ ap (λ (p : Phase). Requests most (reach_in p e) (gaps_in p e)) phase
    ∙ ap (λ (o : Option Eof). Requests most (awaited o) (gaps_below (awaited o) e.received)) came

asks_is : (mib : Mib) (V : World) (s : SessionFields) (id : TransactionId) (e : Entry) → s.stage ≡ Known → session_id s ≡ id → entry_of V id ≡ Some e →
    Turning.asks mib V s ≡ Turning.sequence mib s.header 0 (reach e) (Turning.gaps_after 0 e)
asks_is mib V s id e known name here =
    ap (λ (stage : Stage). Turning.asks_stage mib s.header 0 stage (entry_of V (session_id s))) known
    ∙ ap (λ (n : TransactionId). Turning.asks_entry mib s.header 0 (entry_of V n)) name
    ∙ ap (Turning.asks_entry mib s.header 0) here

-- ---- after what begins a round

pub record Opened (R : State) (i : Input) (id : TransactionId) (e : Entry) (eof : Eof) (sent : List NakFields) (count : ℕ) : Type 0 where
  pub session : SessionFields
  pub before : Before (Turning.after_input R i) id e eof session
  pub asks : requests_of_each sent ≡ asked_for (Turning.most_nak_requests R.mib) eof.size e.received
  pub few : session.timer.count ≤ count

-- ---- the NAK timer

served_is : (R : State) (id : TransactionId) (e : Entry) (eof : Eof) (s : SessionFields) (moment : ℕ) (limit : Bool) → AreDistinct R.sessions →
    Before R id e eof s → (served : IsServed R id moment limit) → s ≡ served.session
served_is R id e eof s moment limit d b served =
    let L = Handing.later moment R in
    is_it R id s served.session d b.here (stage_due L R.sessions served.session limit served.due).0
    (ap (λ (n : TransactionId). is_same n id) served.named ∙ same_itself id)

pub open_expire : (R : State) (id : TransactionId) (e : Entry) (eof : Eof) (s : SessionFields) (moment : ℕ) → AreDistinct R.sessions → Before R id e eof s →
    IsServed R id moment false →
    Opened R (Expire moment) id e eof (Turning.parts R (Expire moment)).answer.naks (s.timer.count + 1)
open_expire R id e eof s moment d b served =
    let i = Expire moment in
    let L = Handing.later moment R in
    let it = served_is R id e eof s moment false d b served in
    let name = found_name R.sessions id s b.here in
    let due : Dues.first_due L R.sessions ≡ Dues.Stage_due s false = served.due ∙ ap (λ (y : SessionFields). Dues.Stage_due y false) (sym it) in
    let U = run R.world (Handing.handed R i) in
    let none : Handing.handed R i ≡ [] = ap (Handing.due_events L) due ∙ asks_none L s b.acknowledged in
    let world : U ≡ R.world = ap (run R.world) none in
    let new : SessionFields = record s { timer = passed L.now s.timer Again } in
    let ss : (Turning.after_input R i).sessions ≡ replaced R.sessions new = ap (λ (x : Dues.Due). (Turning.due_parts L U x).sessions) due in
    let here : found (Turning.after_input R i).sessions id ≡ Some new =
    ap (λ (xs : List SessionFields). found xs id) ss ∙ replaced_self R.sessions new id (s, b.here) name in
    let core : EntryAwaits U id e eof = subst (λ (V : World). EntryAwaits V id e eof) (sym world) b.core in
    let sent : (Turning.parts R i).answer.naks ≡ Turning.sequence R.mib s.header 0 (reach e) (Turning.gaps_after 0 e) =
    ap (λ (x : Dues.Due). (Turning.due_parts L U x).answer.naks) due
    ∙ ap (λ (at : JointPhase). (Turning.repeats L U s at).naks) (at_is R id e eof s b)
    ∙ ap (λ (a : AnswerFields). a.naks)
    (cond-true s.header.acknowledged (record (Turning.said_word s words.Expired) { naks = Turning.asks R.mib U s })
    (Turning.said_word s words.Expired) b.acknowledged)
    ∙ asks_is R.mib U s id e b.known name core.here in
    record {
      session = new;
      before = record { here = here; known = b.known; acknowledged = b.acknowledged; core = core };
      asks = ap requests_of_each sent ∙ sequence_asks R.mib s.header e eof b.core.checks b.core.phase b.core.came;
      few = omega arith;
    }

-- at its limit it has counted that far
pub limit_is_full : (R : State) (id : TransactionId) (e : Entry) (eof : Eof) (s : SessionFields) (moment : ℕ) → AreDistinct R.sessions →
    Before R id e eof s → IsServed R id moment true → R.mib.nak.limit ≤ s.timer.count + 1
limit_is_full R id e eof s moment d b served =
    let L = Handing.later moment R in
    let it = served_is R id e eof s moment true d b served in
    let terms : Dues.terms_at R.mib R.world.config.checks s.header.acknowledged s.timer (at_of R.world s) ≡ Some (R.mib.nak.interval, R.mib.nak.limit) =
    ap (λ (a : Bool). Dues.terms_at R.mib R.world.config.checks a s.timer (at_of R.world s)) b.acknowledged
    ∙ ap (Dues.terms_at R.mib R.world.config.checks true s.timer) (at_is R id e eof s b) in
    let reached : Dues.expiry_of L s ≡ Limit = ap (Dues.expiry_of L) it ∙ (stage_due L R.sessions served.session true served.due).1 in
    full_of R.mib.nak.interval R.mib.nak.limit L.now s.timer (sym (ap (Dues.expiry_by L.now s.timer) terms) ∙ reached)

-- ---- the EOF PDU, or the Metadata PDU after it

open_eof : (R : State) (id : TransactionId) (moment : ℕ) (h : Header) (came : Eof) (e : Entry) (eof : Eof) → EofOpens R id h came →
    TransactionAwaits (Turning.after_input R (EofPdu moment h came)) id e eof →
    Opened R (EofPdu moment h came) id e eof (Turning.parts R (EofPdu moment h came)).answer.naks 0
open_eof R id moment h came e eof r awaits =
    let i = EofPdu moment h came in
    let L = Handing.later moment R in
    let U = run R.world (Handing.handed R i) in
    let rs = replies R.world (Handing.handed R i) in
    let s = r.session in
    let t = Turning.heard_session L U s in
    let is = heard_is L U s in
    let core = awaits.core in
    let name = found_name R.sessions id s r.here in
    let own : session_of L (id_of h) ≡ Some s = ap (found R.sessions) r.named ∙ r.here in
    let parts : Turning.parts R i ≡ Turning.takes_eof L U rs h came s =
    cond-true (Handing.is_ours L h) (Turning.eof_parts L U rs h came (session_of L (id_of h))) (Turning.keeps L (Turning.quiet (Turning.foreign h))) r.ours
    ∙ ap (Turning.eof_parts L U rs h came) own
    ∙ ap (Turning.eof_stage L U rs h came s) r.known
    ∙ cond-false (not (came.condition == 0) && Handing.is_list_begun L (id_of h)) (Turning.keeps L (Turning.acks_only h came Active words.ListBegun))
    (Turning.takes_eof L U rs h came s) (no_cancel L h came r.no_error) in
    let here : found (Turning.after_input R i).sessions id ≡ Some t =
    ap (λ (p : Turning.Parts). found p.sessions id) parts ∙ replaced_self R.sessions t id (s, r.here) (heard_name L U s ∙ name) in
    let it : awaits.session ≡ t = same_Some awaits.session t (sym awaits.here ∙ here) in
    let mode : s.header.acknowledged ≡ true =
    ap (λ (x : Header). x.acknowledged) (sym is.1) ∙ ap (λ (y : SessionFields). y.header.acknowledged) (sym it) ∙ awaits.acknowledged in
    let waits : at_of U s ≡ At_awaiting core.checks = at_in U s id e core.checks r.known name core.here core.phase in
    let left : (Turning.left_receiving L U s && (came.condition == 0)) ≡ true =
    and_from (Turning.left_receiving L U s) (came.condition == 0)
    (and_from (Dues.is_receiving_at (at_of R.world s)) (not (Dues.is_receiving_at (at_of U s))) (ap Dues.is_receiving_at r.receiving)
    (ap (λ (at : JointPhase). not (Dues.is_receiving_at at)) waits))
    (eq-eqb came.condition 0 r.no_error) in
    let sent : (Turning.parts R i).answer.naks ≡ Turning.sequence R.mib s.header 0 (reach e) (Turning.gaps_after 0 e) =
    ap (λ (p : Turning.Parts). p.answer.naks) parts
    ∙ cond-true (Turning.left_receiving L U s && (came.condition == 0)) (Turning.asks_where_awaiting R.mib U s) [] left
    ∙ cond-true (s.header.acknowledged && Turning.is_awaiting_at (at_of U s)) (Turning.asks R.mib U s) []
    (and_from s.header.acknowledged (Turning.is_awaiting_at (at_of U s)) mode (ap Turning.is_awaiting_at waits))
    ∙ asks_is R.mib U s id e r.known name core.here in
    let news : Turning.is_news R.world U s ≡ true =
    ap (λ (at : JointPhase). not (Turning.is_awaiting_at at && Turning.is_awaiting_at (at_of U s)) || not
    (Turning.same_ranges (Turning.gaps_at (entry_of R.world (session_id s))) (Turning.gaps_at (entry_of U (session_id s))))) r.receiving in
    let fresh : t.timer.count ≡ 0 =
    ap (λ (y : SessionFields). y.timer.count) (cond-true (Turning.is_news R.world U s) (record s { timer = restarted L.now }) s news) in
    let count : awaits.session.timer.count ≡ 0 = ap (λ (y : SessionFields). y.timer.count) it ∙ fresh in
    record {
      session = awaits.session;
      before = before_of (Turning.after_input R i) id e eof awaits;
      asks = ap requests_of_each sent ∙ sequence_asks R.mib s.header e eof core.checks core.phase core.came;
      few = omega (arith, count);
    }

open_metadata : (R : State) (id : TransactionId) (moment : ℕ) (h : Header) (m : MetadataFields) (e : Entry) (eof : Eof) → MetadataOpens R id h →
    TransactionAwaits (Turning.after_input R (MetadataPdu moment h m)) id e eof →
    Opened R (MetadataPdu moment h m) id e eof (naks_of_opening R (MetadataPdu moment h m) e) 0
open_metadata R id moment h m e eof r awaits =
    let i = MetadataPdu moment h m in
    let L = Handing.later moment R in
    let U = run R.world (Handing.handed R i) in
    let rs = replies R.world (Handing.handed R i) in
    let s = r.session in
    let t = Turning.begun_session L h (Turning.stage_in (entry_of U (id_of h)) true h.destination) in
    let core = awaits.core in
    let own : session_of L (id_of h) ≡ Some s = ap (found R.sessions) r.named ∙ r.here in
    let parts : Turning.parts R i ≡ Turning.joins L U rs h m =
    cond-true (Handing.is_ours L h) (Turning.metadata_parts L U rs h m (session_of L (id_of h))) (Turning.keeps L (Turning.quiet (Turning.foreign h))) r.ours
    ∙ ap (Turning.metadata_parts L U rs h m) own
    ∙ ap (Turning.metadata_stage L U rs h m s) r.held
    ∙ cond-true h.acknowledged (Turning.joins L U rs h m) (Turning.keeps L (Turning.said_word s words.Idle)) r.mode in
    let here : found (Turning.after_input R i).sessions id ≡ Some t =
    ap (λ (p : Turning.Parts). found p.sessions id) parts ∙ replaced_self R.sessions t id (s, r.here) r.named in
    let it : awaits.session ≡ t = same_Some awaits.session t (sym awaits.here ∙ here) in
    let count : awaits.session.timer.count ≡ 0 = ap (λ (y : SessionFields). y.timer.count) it in
    record {
      session = awaits.session;
      before = before_of (Turning.after_input R i) id e eof awaits;
      asks = sequence_asks R.mib h e eof core.checks core.phase core.came;
      few = omega (arith, count);
    }

pub open_first : (R : State) (id : TransactionId) (i : Input) (e : Entry) (eof : Eof) → Opens R id i → TransactionAwaits (Turning.after_input R i) id e eof →
    Opened R i id e eof (naks_of_opening R i e) 0
open_first R id (EofPdu moment h came) e eof opens awaits = open_eof R id moment h came e eof opens awaits
open_first R id (MetadataPdu moment h m) e eof opens awaits = open_metadata R id moment h m e eof opens awaits
open_first R id (DataPdu moment h piece) e eof opens awaits = elim opens [ ]
open_first R id (AckPdu moment h ack) e eof opens awaits = elim opens [ ]
open_first R id (PromptPdu moment h prompt) e eof opens awaits = elim opens [ ]
open_first R id (OtherPdu moment h) e eof opens awaits = elim opens [ ]
open_first R id (Expire moment) e eof opens awaits = elim opens [ ]
open_first R id (Work moment) e eof opens awaits = elim opens [ ]
open_first R id (Finish moment) e eof opens awaits = elim opens [ ]
open_first R id (CancelAsked moment n) e eof opens awaits = elim opens [ ]
open_first R id ForgetAsked e eof opens awaits = elim opens [ ]
open_first R id (ClockMoved moment) e eof opens awaits = elim opens [ ]
open_first R id NotTaken e eof opens awaits = elim opens [ ]
