-- What the NAK PDUs of an answer ask for.
use Rattle.std.specs.Prelude.{if◌then◌else◌, nat_le, nat_lt, is_some, IsTrue}
use Rattle.std.specs.List.{filter, flat_map}
use Rattle.std.proofs.Common.{◌≡◌, inl, inr, ℕ, zero, suc, ◌+◌, ◌*◌, ◌<◌, ◌≤◌, Bool, true, false, not, ◌&&◌, ◌||◌, ◌==◌, List, [], ◌∷◌, ◌++◌, map, length, Option, Some, None, refl, sym, ap, subst, ◌∙◌, arith}
use Rattle.std.proofs.lemmas.Bool.{cond-true, cond-false, cond_both, and_parts, or_parts, le-leb, lt-leb, le-ltb, eq-eqb, cases_lt, not-false, both_ways}
use Rattle.cfdp_status.proofs.Choices.{either_way}
use Rattle.cfdp_status.specs.declared.transaction.TransactionId.{TransactionId}
use Rattle.cfdp_pdus.specs.Values.{MetadataFields, FileDataFields}
use Rattle.cfdp_pdus.specs.declared.header.Header.{Header}
use Rattle.cfdp_pdus.specs.declared.eof.Eof.{Eof}
use Rattle.cfdp_pdus.specs.Bits.{one_if}
use Rattle.cfdp_directives.specs.Reading.{NakFields}
use Rattle.cfdp_directives.specs.declared.ack.Ack.{Ack}
use Rattle.cfdp_directives.specs.declared.prompt.Prompt.{Prompt}
use Rattle.cfdp_directives.specs.declared.prompt.Prompt.TheVariants as prompts
use Rattle.cfdp_retransmission.specs.Naks.{SegmentRequest, Nak, naks}
use Rattle.cfdp_retransmission.specs.Coming.{continues, cover_count}
use Rattle.cfdp_retransmission.specs.Timers.{restarted, passed}
use Rattle.cfdp_retransmission.specs.declared.timer.Expiry.TheVariants.{Again}
use Rattle.cfdp_retransmission.proofs.Arriving.{asked_once, not_asked}
use Rattle.cfdp_retransmission.proofs.Sequences.{asks_for_all, few_naks}
use Rattle.cfdp_sessions.specs.Sessions.{SessionFields, session_id}
use Rattle.cfdp_sessions.specs.code.Sessions.{IsFound}
use Rattle.cfdp_sessions.proofs.Names.{found_name, replaced_self}
use Rattle.cfdp_sessions.specs.declared.session.Stage.{Stage}
use Rattle.cfdp_sessions.specs.declared.session.Stage.TheVariants.{Held, Known, Over, Waiting}
use Rattle.cfdp_transactions.specs.Entry.{Entry, id_of, is_live, gaps, gaps_in, reach, reach_in, awaited}
use Rattle.cfdp_transactions.specs.Received.{Received, gaps_below, pieces}
use Rattle.cfdp_transactions.specs.ReceivedLaws.{octet_at, IsIn}
use Rattle.cfdp_transactions.proofs.Received.OctetsAndGaps.{few_gaps, gaps_are_missing}
use Rattle.cfdp_transactions.specs.declared.phase.Phase.{Phase}
use Rattle.cfdp_transactions.specs.declared.phase.Phase.TheVariants.{Receiving, Awaiting, Executing, Refused, Done, Ended}
use Rattle.cfdp_transactions.specs.declared.outcome.Outcome.{Outcome}
use Rattle.cfdp_transactions.specs.declared.reply.Reply.{Reply}
use Rattle.cfdp_transactions.specs.World.{World, entry_of, index_of}
use Rattle.cfdp_transactions.specs.Next.{run, replies}
use Rattle.cfdp_receiver.specs.declared.indication.Became.TheVariants as became
use Rattle.cfdp_directives.specs.declared.ack.TransactionStatus.TheVariants.{Active}
use Rattle.cfdp_receiver.specs.declared.indication.Word.TheVariants as words
use Rattle.cfdp_receiver.specs.declared.mib.Handler.{Handler}
use Rattle.cfdp_receiver.specs.declared.mib.Handler.TheVariants as handlers
use Rattle.cfdp_receiver.specs.declared.mib.Mib.{Mib}
use Rattle.cfdp_receiver.specs.State.{State, AnswerFields, Input, MetadataPdu, DataPdu, EofPdu, AckPdu, PromptPdu, OtherPdu, Expire, Work, Finish, CancelAsked, ForgetAsked, ClockMoved, NotTaken, now_of, session_of, is_closed, JointPhase, At_held, At_receiving, At_awaiting, At_executing, At_over, At_waiting, at_of, status_of, turned_header, lacks_room}
use Rattle.cfdp_receiver.specs.Due as Due
use Rattle.cfdp_receiver.specs.Handing as Handing
use Rattle.cfdp_receiver.specs.Turning as Turning
use Rattle.cfdp_receiver.specs.Laws.{due_name, session_name, touched_in, Asked, Asks_none, Asks_all, Asks_gaps, Asks_new, is_data, NaksAsk, requests_of_naks, ExactlyMissing, FewNakPdus, FewRequests}
use Rattle.cfdp_receiver.proofs.SessionsAreKnown.{added_found, heard_stage}
use Rattle.cfdp_receiver.proofs.TurnShapes.{IsDueOf, due_is}

-- ---- by the session

-- the state after an input with these parts
abbrev with_parts : State → World → Turning.Parts → State
with_parts R V p = record { world = V; mib = R.mib; now = R.now; seen = R.seen; sessions = p.sessions; closed = p.closed }

pub from_zero : (xs : List SegmentRequest) → filter (λ (g : SegmentRequest). nat_le 0 g.0) xs ≡ xs
from_zero [] = refl
from_zero (x ∷ xs) =
    cond-true (nat_le 0 x.0) (x ∷ filter (λ (g : SegmentRequest). nat_le 0 g.0) xs) (filter (λ (g : SegmentRequest). nat_le 0 g.0) xs)
    (le-leb 0 x.0 (omega arith))
    ∙ ap (λ (rest : List SegmentRequest). x ∷ rest) (from_zero xs)

asked_entry : (U : World) (N : State) (id : TransactionId) (s : SessionFields) (entry : Option Entry) → session_of N id ≡ Some s →
    s.header.acknowledged ≡ true →
    s.stage ≡ Known → entry_of N.world id ≡ entry → Asked U false N id (Turning.asks_entry N.mib s.header 0 entry)
asked_entry U N id s None here mode known there = Asks_none refl
asked_entry U N id s (Some e) here mode known there =
    Asks_gaps s e here mode known there refl (ap (Turning.sequence N.mib s.header 0 (reach e)) (from_zero (gaps e)))

asked_stage : (U : World) (N : State) (id : TransactionId) (s : SessionFields) (stage : Stage) → session_of N id ≡ Some s → s.header.acknowledged ≡ true →
    s.stage ≡ stage → Asked U false N id (Turning.asks_stage N.mib s.header 0 stage (entry_of N.world id))
asked_stage U N id s (Held eof) here mode is = Asks_all s eof here mode is refl
asked_stage U N id s Known here mode is = asked_entry U N id s (entry_of N.world id) here mode is refl
asked_stage U N id s (Over ending) here mode is = Asks_none refl
asked_stage U N id s Waiting here mode is = Asks_none refl

-- t is the session after the input, of the header and stage of s
record Becomes (N : State) (id : TransactionId) (s : SessionFields) : Type 0 where
  t : SessionFields
  here : session_of N id ≡ Some t
  header : t.header ≡ s.header
  stage : t.stage ≡ s.stage

becomes_name : (N : State) (id : TransactionId) (s : SessionFields) (b : Becomes N id s) → id ≡ session_id s
becomes_name N id s b = sym (found_name N.sessions id b.t b.here) ∙ ap id_of b.header

-- the same of s as of t
asks_same : (N : State) (W : World) (id : TransactionId) (s : SessionFields) (low : ℕ) (b : Becomes N id s) →
    Turning.asks_stage N.mib b.t.header low b.t.stage (entry_of W id) ≡ Turning.asks_stage N.mib s.header low s.stage (entry_of W (session_id s))
asks_same N W id s low b =
    ap (λ (h : Header). Turning.asks_stage N.mib h low b.t.stage (entry_of W id)) b.header
    ∙ ap (λ (stage : Stage). Turning.asks_stage N.mib s.header low stage (entry_of W id)) b.stage
    ∙ ap (λ (n : TransactionId). Turning.asks_stage N.mib s.header low s.stage (entry_of W n)) (becomes_name N id s b)

asked_session : (U : World) (N : State) (id : TransactionId) (s : SessionFields) → Becomes N id s → s.header.acknowledged ≡ true →
    Asked U false N id (Turning.asks N.mib N.world s)
asked_session U N id s b mode =
    subst (Asked U false N id) (asks_same N N.world id s 0 b)
    (asked_stage U N id b.t b.t.stage b.here (ap (λ (h : Header). h.acknowledged) b.header ∙ mode) refl)

asked_if : (U : World) (d : Bool) (N : State) (id : TransactionId) (b : Bool) (xs : List NakFields) → (b ≡ true → Asked U d N id xs) →
    Asked U d N id (if b then xs else [])
asked_if U d N id b xs h = cond_both b xs [] (Asked U d N id) h (λ e. Asks_none refl)

asked_awaiting : (U : World) (N : State) (id : TransactionId) (s : SessionFields) → Becomes N id s →
    Asked U false N id (Turning.asks_where_awaiting N.mib N.world s)
asked_awaiting U N id s b =
    let awaits = Turning.is_awaiting_at (at_of N.world s) in
    asked_if U false N id (s.header.acknowledged && awaits) (Turning.asks N.mib N.world s)
    (λ e. asked_session U N id s b (and_parts s.header.acknowledged awaits e).0)

-- ---- by the input

abbrev AskedIn : State → World → Bool → TransactionId → Turning.Parts → Type 0
AskedIn R V d id p = Asked R.world d (with_parts R V p) id p.answer.naks

-- the session that is put is found
becomes_put : (R : State) (V : World) (id : TransactionId) (s new : SessionFields) (a : AnswerFields) → IsFound R.sessions id → session_id new ≡ id →
    new.header ≡ s.header → new.stage ≡ s.stage →
    Becomes (with_parts R V (Turning.replaces_one R new a)) id s
becomes_put R V id s new a was name header stage = record { t = new; here = replaced_self R.sessions new id was name; header = header; stage = stage }

heard_header : (R : State) (V : World) (s : SessionFields) → (Turning.heard_session R V s).header ≡ s.header
heard_header R V s =
    cond_both (Turning.is_news R.world V s) (record s { timer = restarted R.now }) s (λ (t : SessionFields). t.header ≡ s.header) (λ e. refl) (λ e. refl)

becomes_heard : (R : State) (V : World) (id : TransactionId) (s : SessionFields) (a : AnswerFields) → session_of R id ≡ Some s →
    Becomes (with_parts R V (Turning.replaces_one R (Turning.heard_session R V s) a)) id s
becomes_heard R V id s a here =
    becomes_put R V id s (Turning.heard_session R V s) a (s, here) (ap id_of (heard_header R V s) ∙ found_name R.sessions id s here) (heard_header R V s)
    (heard_stage R V s)

asked_metadata_stage : (R : State) (V : World) (rs : List Reply) (h : Header) (m : MetadataFields) (s : SessionFields) (stage : Stage) →
    session_of R (id_of h) ≡ Some s →
    AskedIn R V false (id_of h) (Turning.metadata_stage R V rs h m s stage)
asked_metadata_stage R V rs h m s (Held eof) here = either_way (AskedIn R V false (id_of h)) h.acknowledged _ _ (Asks_none refl) (Asks_none refl)
asked_metadata_stage R V rs h m s Known here = Asks_none refl
asked_metadata_stage R V rs h m s (Over ending) here = Asks_none refl
asked_metadata_stage R V rs h m s Waiting here = Asks_none refl

asked_metadata : (R : State) (V : World) (rs : List Reply) (h : Header) (m : MetadataFields) (s : Option SessionFields) → session_of R (id_of h) ≡ s →
    AskedIn R V false (id_of h) (Turning.metadata_parts R V rs h m s)
asked_metadata R V rs h m None here =
    either_way (AskedIn R V false (id_of h)) (is_closed R (id_of h) || lacks_room R (id_of h)) _ _ (Asks_none refl) (Asks_none refl)
asked_metadata R V rs h m (Some s) here = asked_metadata_stage R V rs h m s s.stage here

-- ---- File Data

some_gaps : (low : ℕ) (e : Entry) → not (length (Turning.gaps_after low e) == 0) ≡ true → 1 ≤ length (Turning.gaps_after low e)
some_gaps low e h = elim (cases_lt 0 (length (Turning.gaps_after low e))) [
  | inl some ↦ omega (arith, some)
  | inr none ↦ absurd (both_ways (not (length (Turning.gaps_after low e) == 0)) (ap not (eq-eqb (length (Turning.gaps_after low e)) 0 (omega (arith, none)))) h)
]

asked_new_entry : (U : World) (N : State) (id : TransactionId) (s : SessionFields) (low : ℕ) (entry : Option Entry) → session_of N id ≡ Some s →
    s.header.acknowledged ≡ true →
    s.stage ≡ Known → entry_of N.world id ≡ entry → Turning.is_immediate N.mib.nak_mode ≡ true → low ≡ Turning.progress_at (entry_of U id) →
    not (length (filter (λ (g : SegmentRequest). nat_le low g.0) (Turning.gaps_at entry)) == 0) ≡ true → Asked U true N id
    (Turning.asks_entry N.mib s.header low entry)
asked_new_entry U N id s low None here mode known there immediate from some = Asks_none refl
asked_new_entry U N id s low (Some e) here mode known there immediate from some =
    Asks_new s e low here mode known there refl immediate from (some_gaps low e some) refl

known_stage : (stage : Stage) → Turning.is_known stage ≡ true → stage ≡ Known
known_stage (Held eof) e = absurd cc
known_stage Known e = refl
known_stage (Over ending) e = absurd cc
known_stage Waiting e = absurd cc

asked_new : (U : World) (N : State) (id : TransactionId) (s : SessionFields) (low : ℕ) → Becomes N id s → s.stage ≡ Known → s.header.acknowledged ≡ true →
    Turning.is_immediate N.mib.nak_mode ≡ true → low ≡ Turning.progress_at (entry_of U (session_id s)) →
    not (length (filter (λ (g : SegmentRequest). nat_le low g.0) (Turning.gaps_at (entry_of N.world (session_id s)))) == 0) ≡ true →
    Asked U true N id (Turning.asks_stage N.mib s.header low s.stage (entry_of N.world (session_id s)))
asked_new U N id s low b known mode immediate from some =
    let name = becomes_name N id s b in
    let is : b.t.stage ≡ Known = b.stage ∙ known in
    subst (Asked U true N id)
    (ap (λ (stage : Stage). Turning.asks_stage N.mib b.t.header low stage (entry_of N.world id)) (sym is) ∙ asks_same N N.world id s low b)
    (asked_new_entry U N id b.t low (entry_of N.world id) b.here (ap (λ (h : Header). h.acknowledged) b.header ∙ mode) is refl immediate
    (subst (λ (n : TransactionId). low ≡ Turning.progress_at (entry_of U n)) (sym name) from)
    (subst (λ (n : TransactionId). not (length (filter (λ (g : SegmentRequest). nat_le low g.0) (Turning.gaps_at (entry_of N.world n))) == 0) ≡ true)
    (sym name) some))

asked_takes : (R : State) (V : World) (rs : List Reply) (h : Header) (piece : FileDataFields) (s : SessionFields) → session_of R (id_of h) ≡ Some s →
    s.stage ≡ Known →
    AskedIn R V true (id_of h) (Turning.takes_piece R V rs h piece s)
asked_takes R V rs h piece s here known =
    let p = Turning.takes_piece R V rs h piece s in
    let N = with_parts R V p in
    let low = Turning.progress_at (entry_of R.world (session_id s)) in
    let some = not (length (filter (λ (g : SegmentRequest). nat_le low g.0) (Turning.gaps_at (entry_of V (session_id s)))) == 0) in
    let immediate = Turning.is_immediate R.mib.nak_mode in
    let receives = Due.is_receiving_at (at_of V s) in
    asked_if R.world true N (id_of h) (immediate && s.header.acknowledged && receives && some)
    (Turning.asks_stage R.mib s.header low s.stage (entry_of V (session_id s))) (λ e.
    let first = and_parts (immediate && s.header.acknowledged && receives) some e in
    let second = and_parts (immediate && s.header.acknowledged) receives first.0 in
    let third = and_parts immediate s.header.acknowledged second.0 in
    asked_new R.world N (id_of h) s low (becomes_heard R V (id_of h) s p.answer here) known third.1 third.0 refl first.1)

asked_data : (R : State) (V : World) (rs : List Reply) (h : Header) (piece : FileDataFields) (s : Option SessionFields) → session_of R (id_of h) ≡ s →
    AskedIn R V true (id_of h) (Turning.data_parts R V rs h piece s)
asked_data R V rs h piece None here = Asks_none refl
asked_data R V rs h piece (Some s) here =
    cond_both (Turning.is_known s.stage) (Turning.takes_piece R V rs h piece s) (Turning.keeps R (Turning.said_word s words.Idle)) (AskedIn R V true (id_of h))
    (λ e. asked_takes R V rs h piece s here (known_stage s.stage e)) (λ e. Asks_none refl)

-- ---- EOF

asked_eof_stage : (R : State) (V : World) (rs : List Reply) (h : Header) (eof : Eof) (s : SessionFields) (stage : Stage) → session_of R (id_of h) ≡ Some s →
    AskedIn R V false (id_of h) (Turning.eof_stage R V rs h eof s stage)
asked_eof_stage R V rs h eof s (Held kept) here = either_way (AskedIn R V false (id_of h)) (eof.condition == 0) _ _ (Asks_none refl) (Asks_none refl)
asked_eof_stage R V rs h eof s Known here =
    let p = Turning.takes_eof R V rs h eof s in
    either_way (AskedIn R V false (id_of h)) (not (eof.condition == 0) && Handing.is_list_begun R (id_of h))
    (Turning.keeps R (Turning.acks_only h eof Active words.ListBegun)) p (Asks_none refl)
    (asked_if R.world false (with_parts R V p) (id_of h) (Turning.left_receiving R V s && (eof.condition == 0)) (Turning.asks_where_awaiting R.mib V s)
    (λ e. asked_awaiting R.world (with_parts R V p) (id_of h) s (becomes_heard R V (id_of h) s p.answer here)))
asked_eof_stage R V rs h eof s (Over ending) here = Asks_none refl
asked_eof_stage R V rs h eof s Waiting here = Asks_none refl

asked_holds : (R : State) (V : World) (h : Header) (eof : Eof) → session_of R (id_of h) ≡ None → h.acknowledged ≡ true →
    AskedIn R V false (id_of h) (Turning.held_first R h eof)
asked_holds R V h eof none mode =
    let new = Turning.begun_session R h (Held eof) in
    Asks_all new eof (added_found R.sessions new (id_of h) refl none) mode refl refl

asked_eof : (R : State) (V : World) (rs : List Reply) (h : Header) (eof : Eof) (s : Option SessionFields) → session_of R (id_of h) ≡ s →
    AskedIn R V false (id_of h) (Turning.eof_parts R V rs h eof s)
asked_eof R V rs h eof None here =
    let kept = Turning.keeps R (Turning.acks_only h eof (status_of R (id_of h)) (Turning.word_without_session R (id_of h))) in
    let full = Turning.keeps R (Turning.said_of_header h (Turning.no_room_word R)) in
    let before = is_closed R (id_of h) || not (eof.condition == 0) in
    cond_both (before || not h.acknowledged) kept (if lacks_room R (id_of h) then full else Turning.held_first R h eof) (AskedIn R V false (id_of h))
    (λ e. Asks_none refl) (λ e.
    either_way (AskedIn R V false (id_of h)) (lacks_room R (id_of h)) full (Turning.held_first R h eof) (Asks_none refl)
    (asked_holds R V h eof here (not-false h.acknowledged (or_parts before (not h.acknowledged) e).1)))
asked_eof R V rs h eof (Some s) here = asked_eof_stage R V rs h eof s s.stage here

-- ---- ACK and Prompt

asked_ack_stage : (R : State) (V : World) (h : Header) (ack : Ack) (s : SessionFields) (stage : Stage) →
    AskedIn R V false (id_of h) (Turning.ack_stage R h ack s stage)
asked_ack_stage R V h ack s (Held eof) = Asks_none refl
asked_ack_stage R V h ack s Known = Asks_none refl
asked_ack_stage R V h ack s (Over ending) = Asks_none refl
asked_ack_stage R V h ack s Waiting = either_way (AskedIn R V false (id_of h)) (ack.directive == 5) _ _ (Asks_none refl) (Asks_none refl)

asked_ack : (R : State) (V : World) (h : Header) (ack : Ack) (s : Option SessionFields) → AskedIn R V false (id_of h) (Turning.ack_parts R h ack s)
asked_ack R V h ack None = Asks_none refl
asked_ack R V h ack (Some s) = asked_ack_stage R V h ack s s.stage

roused_is : (R : State) (s : SessionFields) → ((Turning.roused R s).header ≡ s.header) × ((Turning.roused R s).stage ≡ s.stage)
roused_is R s =
    cond_both (Due.is_receiving_at (at_of R.world s)) (record s { timer = restarted R.now }) s
    (λ (t : SessionFields). (t.header ≡ s.header) × (t.stage ≡ s.stage)) (λ e. (refl, refl)) (λ e. (refl, refl))

becomes_roused : (R : State) (V : World) (id : TransactionId) (s : SessionFields) (a : AnswerFields) → session_of R id ≡ Some s →
    Becomes (with_parts R V (Turning.replaces_one R (Turning.roused R s) a)) id s
becomes_roused R V id s a here =
    let is = roused_is R s in
    becomes_put R V id s (Turning.roused R s) a (s, here) (ap id_of is.0 ∙ found_name R.sessions id s here) is.0 is.1

asked_prompted : (R : State) (V : World) (h : Header) (s : SessionFields) (prompt : Prompt) → V ≡ R.world → session_of R (id_of h) ≡ Some s →
    s.header.acknowledged ≡ true →
    AskedIn R V false (id_of h) (Turning.replaces_one R (Turning.roused R s) (Turning.prompted R h s prompt))
asked_prompted R V h s prompts.Nak same here mode =
    let p = Turning.replaces_one R (Turning.roused R s) (Turning.prompted R h s prompts.Nak) in
    subst (λ (W : World). Asked R.world false (with_parts R V p) (id_of h) (Turning.asks R.mib W s)) same
    (asked_session R.world (with_parts R V p) (id_of h) s (becomes_roused R V (id_of h) s p.answer here) mode)
asked_prompted R V h s prompts.KeepAlive same here mode = Asks_none refl

asked_prompt : (R : State) (V : World) (h : Header) (prompt : Prompt) (s : Option SessionFields) → V ≡ R.world → session_of R (id_of h) ≡ s →
    AskedIn R V false (id_of h) (Turning.prompt_parts R h prompt s)
asked_prompt R V h prompt None same here = Asks_none refl
asked_prompt R V h prompt (Some s) same here =
    let takes = Turning.takes_prompts (at_of R.world s) in
    cond_both (s.header.acknowledged && takes) (Turning.replaces_one R (Turning.roused R s) (Turning.prompted R h s prompt))
    (Turning.keeps R (Turning.said_of_header h words.Idle)) (AskedIn R V false (id_of h))
    (λ e. asked_prompted R V h s prompt same here (and_parts s.header.acknowledged takes e).0) (λ e. Asks_none refl)

-- ---- timers

if_answer : (U : World) (N : State) (id : TransactionId) (b : Bool) (a c : AnswerFields) → (b ≡ true → Asked U false N id a.naks) → c.naks ≡ [] →
    Asked U false N id (if b then a else c).naks
if_answer U N id b a c ha none = cond_both b a c (λ (x : AnswerFields). Asked U false N id x.naks) ha (λ e. Asks_none none)

asked_again : (R : State) (N : State) (s : SessionFields) → N.mib ≡ R.mib → Becomes N (session_id s) s → s.header.acknowledged ≡ true →
    Asked R.world false N (session_id s) (Turning.asks R.mib N.world s)
asked_again R N s mib b mode =
    subst (λ (m : Mib). Asked R.world false N (session_id s) (Turning.asks m N.world s)) mib (asked_session R.world N (session_id s) s b mode)

asked_repeats : (R : State) (N : State) (s : SessionFields) (at : JointPhase) → N.mib ≡ R.mib → Becomes N (session_id s) s →
    Asked R.world false N (session_id s) (Turning.repeats R N.world s at).naks
asked_repeats R N s At_waiting mib b = Asks_none refl
asked_repeats R N s At_held mib b = if_answer R.world N (session_id s) s.header.acknowledged _ _ (asked_again R N s mib b) refl
asked_repeats R N s At_receiving mib b = if_answer R.world N (session_id s) s.header.acknowledged _ _ (asked_again R N s mib b) refl
asked_repeats R N s (At_awaiting made) mib b = if_answer R.world N (session_id s) s.header.acknowledged _ _ (asked_again R N s mib b) refl
asked_repeats R N s At_executing mib b = if_answer R.world N (session_id s) s.header.acknowledged _ _ (asked_again R N s mib b) refl
asked_repeats R N s At_over mib b = if_answer R.world N (session_id s) s.header.acknowledged _ _ (asked_again R N s mib b) refl

asked_gives_up : (R : State) (V : World) (s : SessionFields) (condition : ℕ) (how : Handler) (at : JointPhase) →
    AskedIn R V false (session_id s) (Turning.gives_up R s condition how at)
asked_gives_up R V s condition handlers.Ignore at = Asks_none refl
asked_gives_up R V s condition handlers.Cancel At_waiting = Asks_none refl
asked_gives_up R V s condition handlers.Cancel At_held = Asks_none refl
asked_gives_up R V s condition handlers.Cancel At_receiving = Asks_none refl
asked_gives_up R V s condition handlers.Cancel (At_awaiting made) = Asks_none refl
asked_gives_up R V s condition handlers.Cancel At_executing = Asks_none refl
asked_gives_up R V s condition handlers.Cancel At_over = Asks_none refl
asked_gives_up R V s condition handlers.Abandon At_waiting = Asks_none refl
asked_gives_up R V s condition handlers.Abandon At_held = Asks_none refl
asked_gives_up R V s condition handlers.Abandon At_receiving = Asks_none refl
asked_gives_up R V s condition handlers.Abandon (At_awaiting made) = Asks_none refl
asked_gives_up R V s condition handlers.Abandon At_executing = Asks_none refl
asked_gives_up R V s condition handlers.Abandon At_over = Asks_none refl

asked_due : (R : State) (V : World) (due : Due.Due) → IsDueOf R.sessions due → AskedIn R V false (due_name due) (Turning.due_parts R V due)
asked_due R V Due.Nothing_due d = Asks_none refl
asked_due R V (Due.Alive_due s) d = Asks_none refl
asked_due R V (Due.Stage_due s false) d =
    let p = Turning.due_parts R V (Due.Stage_due s false) in
    asked_repeats R (with_parts R V p) s (at_of R.world s) refl
    (becomes_put R V (session_id s) s (record s { timer = passed R.now s.timer Again }) p.answer d refl refl refl)
asked_due R V (Due.Stage_due s true) d = asked_gives_up R V s _ _ _

-- ---- outcomes and the user's requests

asked_session_over : (R : State) (V : World) (s : SessionFields) (o : Outcome) → AskedIn R V false (session_id s) (Turning.finish_session R s o)
asked_session_over R V s o =
    let id = session_id s in
    either_way (AskedIn R V false id) s.is_abandoned _ _ (Asks_none refl)
    (either_way (AskedIn R V false id) (not o.send) _ _ (Asks_none refl)
    (either_way (AskedIn R V false id) (not s.header.acknowledged) _ _ (Asks_none refl) (Asks_none refl)))

asked_finish : (R : State) (V : World) (s : Option SessionFields) → AskedIn R V false (session_name s) (Turning.finish_parts R s)
asked_finish R V None = Asks_none refl
asked_finish R V (Some s) = asked_session_over R V s (Turning.outcome_for s (entry_of R.world (session_id s)))

asked_cancel_stage : (R : State) (V : World) (rs : List Reply) (id : TransactionId) (s : SessionFields) (stage : Stage) →
    AskedIn R V false id (Turning.cancel_stage R rs s stage)
asked_cancel_stage R V rs id s (Held eof) = Asks_none refl
asked_cancel_stage R V rs id s Known = either_way (AskedIn R V false id) (Handing.is_list_begun R (session_id s)) _ _ (Asks_none refl) (Asks_none refl)
asked_cancel_stage R V rs id s (Over ending) = Asks_none refl
asked_cancel_stage R V rs id s Waiting = Asks_none refl

asked_cancel : (R : State) (V : World) (rs : List Reply) (id : TransactionId) (s : Option SessionFields) → AskedIn R V false id (Turning.cancel_parts R rs id s)
asked_cancel R V rs id None = Asks_none refl
asked_cancel R V rs id (Some s) = asked_cancel_stage R V rs id s s.stage

-- ---- all inputs

-- a Prompt PDU hands nothing on
abbrev SameForPrompts : State → World → Input → Type 0
SameForPrompts R V i = (now : ℕ) (h : Header) (prompt : Prompt) → i ≡ PromptPdu now h prompt → V ≡ R.world

asked_ours : (R : State) (V : World) (d : Bool) (h : Header) (p : Turning.Parts) → AskedIn R V d (id_of h) p →
    AskedIn R V d (id_of h) (Turning.where_ours R h p)
asked_ours R V d h p hp = either_way (AskedIn R V d (id_of h)) (Handing.is_ours R h) p (Turning.keeps R (Turning.quiet (Turning.foreign h))) hp (Asks_none refl)

asked_of : (R : State) (V : World) (rs : List Reply) (i : Input) → SameForPrompts R V i → AskedIn R V (is_data i) (touched_in R i) (Turning.parts_of R V rs i)
asked_of R V rs (MetadataPdu now h m) same = asked_ours R V false h _ (asked_metadata R V rs h m (session_of R (id_of h)) refl)
asked_of R V rs (DataPdu now h piece) same = asked_ours R V true h _ (asked_data R V rs h piece (session_of R (id_of h)) refl)
asked_of R V rs (EofPdu now h eof) same = asked_ours R V false h _ (asked_eof R V rs h eof (session_of R (id_of h)) refl)
asked_of R V rs (AckPdu now h ack) same = asked_ours R V false h _ (asked_ack R V h ack (session_of R (id_of h)))
asked_of R V rs (PromptPdu now h prompt) same = asked_ours R V false h _ (asked_prompt R V h prompt (session_of R (id_of h)) (same now h prompt refl) refl)
asked_of R V rs (OtherPdu now h) same = asked_ours R V false h (Turning.keeps R (Turning.quiet became.NotOurs)) (Asks_none refl)
asked_of R V rs (Expire now) same = asked_due R V (Due.first_due R R.sessions) (due_is R R.sessions)
asked_of R V rs (Work now) same = Asks_none refl
asked_of R V rs (Finish now) same = asked_finish R V (Due.first_over R.world R.sessions)
asked_of R V rs (CancelAsked now id) same = asked_cancel R V rs id (session_of R id)
asked_of R V rs ForgetAsked same = Asks_none refl
asked_of R V rs (ClockMoved now) same = Asks_none refl
asked_of R V rs NotTaken same = Asks_none refl

-- whatever the driver's clock says
asked_seen : (U : World) (d : Bool) (N : State) (seen : ℕ) (id : TransactionId) (sent : List NakFields) → Asked U d N id sent →
    Asked U d (record N { seen = seen }) id sent
asked_seen U d N seen id sent (Asks_none e) = Asks_none e
asked_seen U d N seen id sent (Asks_all s eof here mode held e) = Asks_all s eof here mode held e
asked_seen U d N seen id sent (Asks_gaps s entry here mode known there other e) = Asks_gaps s entry here mode known there other e
asked_seen U d N seen id sent (Asks_new s entry low here mode known there came immediate from some e) =
    Asks_new s entry low here mode known there came immediate from some e

pub naks_ask : NaksAsk
naks_ask R i =
    let L = Handing.later (now_of i) R in
    let V = run R.world (Handing.handed R i) in
    let p = Turning.parts R i in
    asked_seen R.world (is_data i) (with_parts L V p) (Turning.seen_after R i) (touched_in L i) p.answer.naks
    (asked_of L V (replies R.world (Handing.handed R i)) i (λ now h prompt e. ap (λ (j : Input). run R.world (Handing.handed R j)) e))

-- ---- exactly what is missing

abbrev pub with_header : Header → Nak → NakFields
with_header h nak = record { header = turned_header h; scope = nak.scope; requests = nak.requests }

requests_are : (h : Header) (xs : List Nak) → requests_of_naks (map (with_header h) xs) ≡ flat_map (λ (n : Nak). n.requests) xs
requests_are h [] = refl
requests_are h (x ∷ xs) = ap (λ (rest : List SegmentRequest). x.requests ++ rest) (requests_are h xs)

-- the requests of a sequence are those that it was made for
pub asks_for : (mib : Mib) (h : Header) (low high : ℕ) (requests : List SegmentRequest) → 1 ≤ Turning.most_nak_requests mib →
    requests_of_naks (Turning.sequence mib h low high requests) ≡ requests
asks_for mib h low high requests some =
    requests_are h (naks (Turning.most_nak_requests mib) low high requests) ∙ asks_for_all (Turning.most_nak_requests mib) low high requests some

abbrev Exact : ℕ → Received → List SegmentRequest → ℕ → Type 0
Exact limit received found i =
    (i < limit → octet_at received i ≡ None → cover_count i found ≡ 1) × ((i < limit → octet_at received i ≡ None → ⊥) → cover_count i found ≡ 0)

exact_below : (limit : ℕ) (received : Received) (i : ℕ) → Exact limit received (gaps_below limit received) i
exact_below limit received i =
    let found = gaps_below limit received in
    let all = asks_for_all 1 0 limit found (omega arith) in (
      λ low missing. ap (cover_count i) (sym all) ∙ asked_once 1 limit received i (omega arith) low missing,
      λ other. ap (cover_count i) (sym all) ∙ not_asked 1 limit received i (omega arith) other,
    )

-- where no file data is taken nothing is asked for
exact_none : (received : Received) (i : ℕ) → Exact 0 received [] i
exact_none received i = (λ low missing. absurd (omega (arith, low)), λ other. refl)

exact_in : (entry : Entry) (phase : Phase) (i : ℕ) → Exact (reach_in phase entry) entry.received (gaps_in phase entry) i
exact_in entry Receiving i = exact_below (length entry.received) entry.received i
exact_in entry (Awaiting checks) i = exact_below (awaited entry.eof) entry.received i
exact_in entry (Executing next) i = exact_none entry.received i
exact_in entry Refused i = exact_none entry.received i
exact_in entry Done i = exact_none entry.received i
exact_in entry (Ended condition) i = exact_none entry.received i

-- of the gaps that begin at an offset or after it

gap_before : (g : SegmentRequest) (low i : ℕ) → g.1 ≤ low → low ≤ i → one_if (nat_le g.0 i && nat_lt i g.1) ≡ 0
gap_before g low i ends from = elim (cases_lt i g.0) [
  | inl early ↦ rw (lt-leb g.0 i early) refl
  | inr there ↦ rw (le-leb g.0 i there, le-ltb i g.1 (omega (arith, ends, from))) refl
]

-- no gap has the octet before the offset
covers_from : (xs : List SegmentRequest) (at i : ℕ) → (IsIn at xs → ⊥) → suc at ≤ i → cover_count i (filter (λ (g : SegmentRequest). nat_le (suc at) g.0) xs)
    ≡ cover_count i xs
covers_from [] at i out from = refl
covers_from (g ∷ gs) at i out from =
    let rest = filter (λ (g : SegmentRequest). nat_le (suc at) g.0) gs in
    let later = covers_from gs at i (λ h. out (inr h)) from in
    elim (cases_lt g.0 (suc at)) [
      | inl early ↦
          elim (cases_lt at g.1) [
            | inl inside ↦ absurd (out (inl (omega (arith, early), inside)))
            | inr ends ↦
                let gone = gap_before g (suc at) i (omega (arith, ends)) from in
                ap (cover_count i) (cond-false (nat_le (suc at) g.0) (g ∷ rest) rest (lt-leb (suc at) g.0 early)) ∙ omega (arith, later, gone)
          ]
      | inr kept ↦ ap (cover_count i) (cond-true (nat_le (suc at) g.0) (g ∷ rest) rest (le-leb (suc at) g.0 kept)) ∙ omega (arith, later)
    ]

covers_before : (xs : List SegmentRequest) (low i : ℕ) → i < low → cover_count i (filter (λ (g : SegmentRequest). nat_le low g.0) xs) ≡ 0
covers_before [] low i before = refl
covers_before (g ∷ gs) low i before =
    let rest = filter (λ (g : SegmentRequest). nat_le low g.0) gs in
    let later = covers_before gs low i before in
    elim (cases_lt g.0 low) [
      | inl early ↦ ap (cover_count i) (cond-false (nat_le low g.0) (g ∷ rest) rest (lt-leb low g.0 early)) ∙ later
      | inr kept ↦
          let not_yet : one_if (nat_le g.0 i && nat_lt i g.1) ≡ 0 = rw (lt-leb g.0 i (omega (arith, kept, before))) refl in
          ap (cover_count i) (cond-true (nat_le low g.0) (g ∷ rest) rest (le-leb low g.0 kept)) ∙ omega (arith, later, not_yet)
    ]

-- what was received is in no gap
in_gap : (entry : Entry) (phase : Phase) (at : ℕ) → IsIn at (gaps_in phase entry) → octet_at entry.received at ≡ None
in_gap entry Receiving at h = ((gaps_are_missing (length entry.received) entry.received at).0 h).1
in_gap entry (Awaiting checks) at h = ((gaps_are_missing (awaited entry.eof) entry.received at).0 h).1
in_gap entry (Executing next) at h = elim h [ ]
in_gap entry Refused at h = elim h [ ]
in_gap entry Done at h = elim h [ ]
in_gap entry (Ended condition) at h = elim h [ ]

covers_after : (entry : Entry) (low i : ℕ) → continues entry.received low ≡ true → low ≤ i → cover_count i (Turning.gaps_after low entry) ≡ cover_count i
    (gaps entry)
covers_after entry zero i h from = ap (cover_count i) (from_zero (gaps entry))
covers_after entry (suc at) i h from =
    covers_from (gaps entry) at i (λ inside. both_ways (is_some (octet_at entry.received at)) (ap is_some (in_gap entry entry.phase at inside)) h) from

pub exactly_missing : ExactlyMissing
exactly_missing mib h entry low i some joined =
    let all = asks_for mib h low (reach entry) (Turning.gaps_after low entry) some in
    let exact = exact_in entry entry.phase i in (
      λ from inside missing. ap (cover_count i) all ∙ covers_after entry low i joined from ∙ exact.0 inside missing,
      λ other. ap (cover_count i) all ∙ elim (cases_lt i low) [
        | inl before ↦ covers_before (gaps entry) low i before
        | inr from ↦ covers_after entry low i joined from ∙ exact.1 (λ inside missing. other from inside missing)
      ],
    )

map_len : (h : Header) (xs : List Nak) → length (map (with_header h) xs) ≡ length xs
map_len h [] = refl
map_len h (x ∷ xs) = omega (arith, map_len h xs)

pub few_nak_pdus : FewNakPdus
few_nak_pdus mib h low high requests some =
    let most = Turning.most_nak_requests mib in
    subst (λ (n : ℕ). most * n < 1 + most + length requests) (sym (map_len h (naks most low high requests))) (few_naks most low high requests some)

-- ---- few requests

fewer : (low : ℕ) (xs : List SegmentRequest) → length (filter (λ (g : SegmentRequest). nat_le low g.0) xs) ≤ length xs
fewer low [] = omega arith
fewer low (x ∷ xs) =
    let rest = filter (λ (g : SegmentRequest). nat_le low g.0) xs in
    cond_both (nat_le low x.0) (x ∷ rest) rest (λ (ys : List SegmentRequest). length ys ≤ length (x ∷ xs)) (λ e. omega (arith, fewer low xs))
    (λ e. omega (arith, fewer low xs))

few_in : (W : World) (entry : Entry) (phase : Phase) → (IsTrue (is_live phase) → pieces entry.received ≤ 32) → length (gaps_in phase entry) ≤ 33
few_in W entry Receiving h = omega (arith, few_gaps (length entry.received) entry.received, h refl)
few_in W entry (Awaiting checks) h = omega (arith, few_gaps (awaited entry.eof) entry.received, h refl)
few_in W entry (Executing next) h = omega arith
few_in W entry Refused h = omega arith
few_in W entry Done h = omega arith
few_in W entry (Ended condition) h = omega arith

pub few_requests : FewRequests
few_requests W id entry low sound here =
    omega (arith, fewer low (gaps entry), few_in W entry entry.phase (λ live. (sound.live (index_of W id) entry here live).pieces))
