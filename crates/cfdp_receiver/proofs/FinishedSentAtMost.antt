-- How often a Finished PDU is sent.
use Rattle.std.proofs.Common.{◌≡◌, ◌≢◌, ◌⊎◌, inl, inr, ℕ, ◌+◌, ◌<◌, Bool, true, false, ◌&&◌, List, [], ◌∷◌, length, Option, Some, None, refl, sym, ap, subst, ◌∙◌, arith}
use Rattle.std.proofs.lemmas.Bool.{cond-true, cond-false, cases_Bool, and_parts, both_ways}
use Rattle.std.proofs.lemmas.Option.{same_Some}
use Rattle.cfdp_status.proofs.Choices.{either_way}
use Rattle.cfdp_status.specs.declared.transaction.TransactionId.{TransactionId}
use Rattle.cfdp_leases.specs.Leases.{is_same}
use Rattle.cfdp_pdus.specs.Values.{MetadataFields, FileDataFields}
use Rattle.cfdp_pdus.specs.declared.header.Header.{Header}
use Rattle.cfdp_pdus.specs.declared.eof.Eof.{Eof}
use Rattle.cfdp_directives.specs.declared.ack.Ack.{Ack}
use Rattle.cfdp_directives.specs.declared.prompt.Prompt.{Prompt}
use Rattle.cfdp_retransmission.specs.declared.timer.Expiry.{Expiry}
use Rattle.cfdp_retransmission.specs.declared.timer.Expiry.TheVariants.{NotDue, Again, Limit}
use Rattle.cfdp_retransmission.specs.Timers.{expiry, passed}
use Rattle.cfdp_retransmission.proofs.Waiting.{Early, Due, Over, why}
use Rattle.cfdp_sessions.specs.Sessions.{SessionFields, session_id, found, without_session, AreDistinct}
use Rattle.cfdp_sessions.specs.declared.session.Stage.{Stage}
use Rattle.cfdp_sessions.specs.declared.session.Stage.TheVariants.{Held, Known, Over as OverStage, Waiting}
use Rattle.cfdp_sessions.proofs.Names.{gone, found_name, IsMember, member_found, replaced_self}
use Rattle.cfdp_transactions.specs.Entry.{id_of}
use Rattle.cfdp_transactions.specs.declared.reply.Reply.{Reply}
use Rattle.cfdp_transactions.specs.World.{World, entry_of}
use Rattle.cfdp_transactions.specs.Next.{run, replies}
use Rattle.cfdp_transactions.proofs.Options.{chosen_some}
use Rattle.cfdp_receiver.specs.declared.indication.Became.TheVariants as became
use Rattle.cfdp_receiver.specs.declared.indication.Word.TheVariants as words
use Rattle.cfdp_receiver.specs.declared.mib.Handler.{Handler}
use Rattle.cfdp_receiver.specs.declared.mib.Handler.TheVariants as handlers
use Rattle.cfdp_receiver.specs.State.{State, AnswerFields, Input, MetadataPdu, DataPdu, EofPdu, AckPdu, PromptPdu, OtherPdu, Expire, Work, Finish, CancelAsked, ForgetAsked, ClockMoved, NotTaken, now_of, session_of, JointPhase, At_waiting, at_stage, at_of}
use Rattle.cfdp_receiver.specs.Due as Dues
use Rattle.cfdp_receiver.specs.Handing as Handing
use Rattle.cfdp_receiver.specs.Turning as Turning
use Rattle.cfdp_receiver.specs.Laws.{due_name, session_name, touched, touched_in, is_waiting, waits_in, sent_for, sent_while, SentAtMost}
use Rattle.cfdp_receiver.proofs.TurnShapes.{others_stay}
use Rattle.cfdp_receiver.proofs.Distinct.{distinct_after}
use Rattle.cfdp_leases.proofs.Admitted.{same_is}

-- ---- whose timer is due, and why

abbrev due_session : SessionFields → Dues.Due → SessionFields
due_session s Dues.Nothing_due = s
due_session s (Dues.Stage_due t limit) = t
due_session s (Dues.Alive_due t) = t

abbrev due_limit : Dues.Due → Bool
due_limit (Dues.Stage_due t limit) = limit
due_limit due = false

abbrev expiry_indicated : Bool → Expiry
expiry_indicated true = Limit
expiry_indicated false = Again

due_by_stage : (e : Expiry) (alive : Bool) (x : SessionFields) (later : Dues.Due) (t : SessionFields) (b : Bool) →
    Dues.due_by e alive x later ≡ Dues.Stage_due t b → ((x ≡ t) × (e ≡ expiry_indicated b)) ⊎ (later ≡ Dues.Stage_due t b)
due_by_stage Again alive x later t b e = inl (ap (due_session x) e, ap (λ (d : Dues.Due). expiry_indicated (due_limit d)) e)
due_by_stage Limit alive x later t b e = inl (ap (due_session x) e, ap (λ (d : Dues.Due). expiry_indicated (due_limit d)) e)
due_by_stage NotDue true x later t b e = absurd cc
due_by_stage NotDue false x later t b e = inr e

due_by_alive : (e : Expiry) (alive : Bool) (x : SessionFields) (later : Dues.Due) (t : SessionFields) →
    Dues.due_by e alive x later ≡ Dues.Alive_due t → ((x ≡ t) × (alive ≡ true)) ⊎ (later ≡ Dues.Alive_due t)
due_by_alive Again alive x later t e = absurd cc
due_by_alive Limit alive x later t e = absurd cc
due_by_alive NotDue true x later t e = inl (ap (due_session x) e, refl)
due_by_alive NotDue false x later t e = inr e

pub stage_due : (R : State) (ss : List SessionFields) (t : SessionFields) (b : Bool) → Dues.first_due R ss ≡ Dues.Stage_due t b → IsMember t ss
    × (Dues.expiry_of R t ≡ expiry_indicated b)
stage_due R [] t b e = absurd cc
stage_due R (x ∷ xs) t b e = elim (due_by_stage (Dues.expiry_of R x) (Dues.is_alive_due R x) x (Dues.first_due R xs) t b e) [
  | inl here ↦ (inl here.0, ap (Dues.expiry_of R) (sym here.0) ∙ here.1)
  | inr there ↦ let rest = stage_due R xs t b there in (inr rest.0, rest.1)
]

pub alive_due : (R : State) (ss : List SessionFields) (t : SessionFields) → Dues.first_due R ss ≡ Dues.Alive_due t → IsMember t ss
    × (Dues.is_alive_due R t ≡ true)
alive_due R [] t e = absurd cc
alive_due R (x ∷ xs) t e = elim (due_by_alive (Dues.expiry_of R x) (Dues.is_alive_due R x) x (Dues.first_due R xs) t e) [
  | inl here ↦ (inl here.0, ap (Dues.is_alive_due R) (sym here.0) ∙ here.1)
  | inr there ↦ let rest = alive_due R xs t there in (inr rest.0, rest.1)
]

pub first_over_is : (W : World) (ss : List SessionFields) (t : SessionFields) → Dues.first_over W ss ≡ Some t → IsMember t ss
    × (Dues.is_over (at_of W t) ≡ true)
first_over_is W [] t e = absurd cc
first_over_is W (x ∷ xs) t e = elim (chosen_some (Dues.is_over (at_of W x)) x t (Dues.first_over W xs) e) [
  | inl here ↦ (inl here.1, ap (λ (y : SessionFields). Dues.is_over (at_of W y)) (sym here.1) ∙ here.0)
  | inr there ↦ let rest = first_over_is W xs t there.1 in (inr rest.0, rest.1)
]

-- ---- what becomes of a session that waits

data Waits (R : State) (id : TransactionId) (s : SessionFields) (p : Turning.Parts) : Type 0 where
  Same : (here : found p.sessions id ≡ Some s) → (quiet : p.answer.finished ≡ []) → Waits R id s p
  Sent : (t : SessionFields) → (here : found p.sessions id ≡ Some t) → (waits : t.stage ≡ Waiting) → (more : t.timer.count ≡ s.timer.count + 1) →
      (room : s.timer.count + 1 < R.mib.ack.limit) → (one : length p.answer.finished ≡ 1) → Waits R id s p
  Gone : (here : found p.sessions id ≡ None) → (quiet : p.answer.finished ≡ []) → Waits R id s p

-- a PDU of this transaction, where its session waits
ours_waits : (R : State) (h : Header) (s : SessionFields) (p : Turning.Parts) → found R.sessions (id_of h) ≡ Some s → Waits R (id_of h) s p →
    Waits R (id_of h) s (Turning.where_ours R h p)
ours_waits R h s p e w = either_way (Waits R (id_of h) s) (Handing.is_ours R h) p (Turning.keeps R (Turning.quiet (Turning.foreign h))) w (Same e refl)

waits_metadata : (R : State) (V : World) (rs : List Reply) (h : Header) (m : MetadataFields) (s : SessionFields) (stage : Stage) → found R.sessions (id_of h)
    ≡ Some s → stage ≡ Waiting →
    Waits R (id_of h) s (Turning.metadata_stage R V rs h m s stage)
waits_metadata R V rs h m s (Held eof) e w = absurd cc
waits_metadata R V rs h m s Known e w = absurd cc
waits_metadata R V rs h m s (OverStage ending) e w = absurd cc
waits_metadata R V rs h m s Waiting e w = Same e refl

waits_known : (stage : Stage) → stage ≡ Waiting → Turning.is_known stage ≡ false
waits_known (Held eof) w = absurd cc
waits_known Known w = absurd cc
waits_known (OverStage ending) w = absurd cc
waits_known Waiting w = refl

waits_data : (R : State) (V : World) (rs : List Reply) (h : Header) (piece : FileDataFields) (s : SessionFields) → found R.sessions (id_of h) ≡ Some s → s.stage
    ≡ Waiting →
    Waits R (id_of h) s (Turning.data_parts R V rs h piece (Some s))
waits_data R V rs h piece s e w =
    subst (Waits R (id_of h) s) (sym (cond-false (Turning.is_known s.stage) (Turning.takes_piece R V rs h piece s) (Turning.keeps R (Turning.said_word s _))
    (waits_known s.stage w)))
    (Same e refl)

waits_eof : (R : State) (V : World) (rs : List Reply) (h : Header) (eof : Eof) (s : SessionFields) (stage : Stage) → found R.sessions (id_of h) ≡ Some s → stage
    ≡ Waiting →
    Waits R (id_of h) s (Turning.eof_stage R V rs h eof s stage)
waits_eof R V rs h eof s (Held kept) e w = absurd cc
waits_eof R V rs h eof s Known e w = absurd cc
waits_eof R V rs h eof s (OverStage ending) e w = absurd cc
waits_eof R V rs h eof s Waiting e w = Same e refl

-- it is closed
closes_it : (R : State) (id : TransactionId) (s : SessionFields) (a : AnswerFields) → AreDistinct R.sessions → session_id s ≡ id → a.finished ≡ [] →
    Waits R id s (Turning.closes R s a)
closes_it R id s a d name q = Gone (ap (λ (n : TransactionId). found (without_session R.sessions n) id) name ∙ gone R.sessions id d) q

waits_ack : (R : State) (h : Header) (ack : Ack) (s : SessionFields) (stage : Stage) → AreDistinct R.sessions → found R.sessions (id_of h) ≡ Some s →
    session_id s
    ≡ id_of h → stage ≡ Waiting →
    Waits R (id_of h) s (Turning.ack_stage R h ack s stage)
waits_ack R h ack s (Held eof) d e name w = absurd cc
waits_ack R h ack s Known d e name w = absurd cc
waits_ack R h ack s (OverStage ending) d e name w = absurd cc
waits_ack R h ack s Waiting d e name w =
    either_way (Waits R (id_of h) s) _ (Turning.closes R s (Turning.said_of_header h _)) (Turning.keeps R (Turning.said_of_header h _))
    (closes_it R (id_of h) s _ d name refl) (Same e refl)

pub at_waiting : (W : World) (s : SessionFields) → s.stage ≡ Waiting → at_of W s ≡ At_waiting
at_waiting W s w = ap (λ (stage : Stage). at_stage stage (entry_of W (session_id s))) w

waits_prompt : (R : State) (h : Header) (prompt : Prompt) (s : SessionFields) → found R.sessions (id_of h) ≡ Some s → s.stage ≡ Waiting →
    Waits R (id_of h) s (Turning.prompt_parts R h prompt (Some s))
waits_prompt R h prompt s e w =
    let takes : Turning.takes_prompts (at_of R.world s) ≡ false = ap Turning.takes_prompts (at_waiting R.world s w) in
    elim (cases_Bool (s.header.acknowledged && Turning.takes_prompts (at_of R.world s))) [
      | inl both ↦ absurd (both_ways (Turning.takes_prompts (at_of R.world s)) takes
          (and_parts s.header.acknowledged (Turning.takes_prompts (at_of R.world s)) both).1)
      | inr neither ↦
          subst (Waits R (id_of h) s)
          (sym (cond-false (s.header.acknowledged && Turning.takes_prompts (at_of R.world s))
          (Turning.replaces_one R (Turning.roused R s) (Turning.prompted R h s prompt)) (Turning.keeps R (Turning.said_of_header h words.Idle)) neither))
          (Same e refl)
    ]

waits_cancel : (R : State) (rs : List Reply) (id : TransactionId) (s : SessionFields) (stage : Stage) → AreDistinct R.sessions → found R.sessions id ≡ Some s →
    stage ≡ Waiting →
    Waits R id s (Turning.cancel_stage R rs s stage)
waits_cancel R rs id s (Held eof) d e w = absurd cc
waits_cancel R rs id s Known d e w = absurd cc
waits_cancel R rs id s (OverStage ending) d e w = absurd cc
waits_cancel R rs id s Waiting d e w = closes_it R id s _ d (found_name R.sessions id s e) refl

-- ---- its timer

pub terms_waiting : (R : State) (acknowledged : Bool) (s : SessionFields) →
    Dues.terms_at R.mib R.world.config.checks acknowledged s.timer At_waiting ≡ Some (R.mib.ack.interval, R.mib.ack.limit)
terms_waiting R true s = refl
terms_waiting R false s = refl

handler_waiting : (R : State) (acknowledged : Bool) → Dues.handler_at R.mib acknowledged At_waiting ≡ R.mib.ack.at_limit
handler_waiting R true = refl
handler_waiting R false = refl

expiry_waiting : (R : State) (s : SessionFields) → s.stage ≡ Waiting → Dues.expiry_of R s ≡ expiry R.mib.ack.interval R.mib.ack.limit R.now s.timer
expiry_waiting R s w =
    ap (λ (at : JointPhase). Dues.expiry_by R.now s.timer (Dues.terms_at R.mib R.world.config.checks s.header.acknowledged s.timer at)) (at_waiting R.world s w)
    ∙ ap (Dues.expiry_by R.now s.timer) (terms_waiting R s.header.acknowledged s)

room_of : (R : State) (s : SessionFields) → expiry R.mib.ack.interval R.mib.ack.limit R.now s.timer ≡ Again → s.timer.count + 1 < R.mib.ack.limit
room_of R s again = elim (why R.mib.ack.interval R.mib.ack.limit R.now s.timer) [
  | Early e ↦ let never : NotDue ≡ Again = sym e ∙ again in absurd cc
  | Due e due room ↦ room
  | Over e due full ↦ let never : Limit ≡ Again = sym e ∙ again in absurd cc
]

waits_again : (R : State) (V : World) (id : TransactionId) (s : SessionFields) → found R.sessions id ≡ Some s → session_id s ≡ id → s.stage ≡ Waiting →
    Dues.expiry_of R s ≡ Again → Waits R id s (Turning.due_parts R V (Dues.Stage_due s false))
waits_again R V id s e name w again =
    let t : SessionFields = record s { timer = passed R.now s.timer Again } in
    Sent t (replaced_self R.sessions t id (s, e) name) w refl (room_of R s (sym (expiry_waiting R s w) ∙ again))
    (ap (λ (at : JointPhase). length (Turning.repeats R V s at).finished) (at_waiting R.world s w))

gives_waiting : (R : State) (id : TransactionId) (s : SessionFields) (condition : ℕ) (how : Handler) → AreDistinct R.sessions → session_id s ≡ id → how
    ≢ handlers.Ignore →
    Waits R id s (Turning.gives_up R s condition how At_waiting)
gives_waiting R id s condition handlers.Ignore d name ne = absurd (ne refl)
gives_waiting R id s condition handlers.Cancel d name ne = closes_it R id s _ d name refl
gives_waiting R id s condition handlers.Abandon d name ne = closes_it R id s _ d name refl

waits_limit : (R : State) (V : World) (id : TransactionId) (s : SessionFields) → AreDistinct R.sessions → session_id s ≡ id → s.stage ≡ Waiting →
    R.mib.ack.at_limit ≢ handlers.Ignore →
    Waits R id s (Turning.due_parts R V (Dues.Stage_due s true))
waits_limit R V id s d name w ne =
    subst (λ (at : JointPhase). Waits R id s (Turning.gives_up R s (Dues.fault_at s.header.acknowledged at)
    (Dues.handler_at R.mib s.header.acknowledged at) at))
    (sym (at_waiting R.world s w)) (
    subst (λ (how : Handler). Waits R id s (Turning.gives_up R s (Dues.fault_at s.header.acknowledged At_waiting) how At_waiting))
    (sym (handler_waiting R s.header.acknowledged))
    (gives_waiting R id s _ R.mib.ack.at_limit d name ne)
    )

-- a member of that name is the session
pub is_it : (R : State) (id : TransactionId) (s t : SessionFields) → AreDistinct R.sessions → found R.sessions id ≡ Some s → IsMember t R.sessions →
    is_same (session_id t) id ≡ true → s ≡ t
is_it R id s t d e member same =
    same_Some s t (sym e ∙ ap (found R.sessions) (sym (same_is (session_id t) id same)) ∙ member_found R.sessions t d member)

waits_due : (R : State) (V : World) (id : TransactionId) (s : SessionFields) (due : Dues.Due) → AreDistinct R.sessions → found R.sessions id ≡ Some s →
    session_id s ≡ id → s.stage ≡ Waiting →
    R.mib.ack.at_limit ≢ handlers.Ignore → Dues.first_due R R.sessions ≡ due → is_same (due_name due) id ≡ true → Waits R id s (Turning.due_parts R V due)
waits_due R V id s Dues.Nothing_due d e name w ne is same = Same e refl
waits_due R V id s (Dues.Alive_due t) d e name w ne is same =
    let alive = alive_due R R.sessions t is in
    let it : s ≡ t = is_it R id s t d e alive.0 same in
    let both = and_parts (t.header.acknowledged && Dues.is_receiving_at (at_of R.world t)) (Dues.has_passed R.mib.keep_alive R.now t.alive_at) alive.1 in
    let receiving : Dues.is_receiving_at (at_of R.world t) ≡ true = (and_parts t.header.acknowledged (Dues.is_receiving_at (at_of R.world t)) both.0).1 in
    let waiting : Dues.is_receiving_at (at_of R.world t) ≡ false =
    ap (λ (y : SessionFields). Dues.is_receiving_at (at_of R.world y)) (sym it) ∙ ap Dues.is_receiving_at (at_waiting R.world s w) in
    absurd (both_ways (Dues.is_receiving_at (at_of R.world t)) waiting receiving)
waits_due R V id s (Dues.Stage_due t false) d e name w ne is same =
    let due = stage_due R R.sessions t false is in
    let it : s ≡ t = is_it R id s t d e due.0 same in
    subst (λ (y : SessionFields). Waits R id s (Turning.due_parts R V (Dues.Stage_due y false))) it
    (waits_again R V id s e name w (ap (Dues.expiry_of R) it ∙ due.1))
waits_due R V id s (Dues.Stage_due t true) d e name w ne is same =
    let due = stage_due R R.sessions t true is in
    let it : s ≡ t = is_it R id s t d e due.0 same in
    subst (λ (y : SessionFields). Waits R id s (Turning.due_parts R V (Dues.Stage_due y true))) it (waits_limit R V id s d name w ne)

waits_finish : (R : State) (id : TransactionId) (s : SessionFields) (o : Option SessionFields) → AreDistinct R.sessions → found R.sessions id ≡ Some s → s.stage
    ≡ Waiting →
    Dues.first_over R.world R.sessions ≡ o → is_same (session_name o) id ≡ true → Waits R id s (Turning.finish_parts R o)
waits_finish R id s None d e w is same = Same e refl
waits_finish R id s (Some t) d e w is same =
    let over = first_over_is R.world R.sessions t is in
    let it : s ≡ t = is_it R id s t d e over.0 same in
    let waiting : Dues.is_over (at_of R.world t) ≡ false = ap (λ (y : SessionFields). Dues.is_over (at_of R.world y)) (sym it)
    ∙ ap Dues.is_over (at_waiting R.world s w) in
    absurd (both_ways (Dues.is_over (at_of R.world t)) waiting over.1)

-- ---- each input

-- a PDU of the transaction
waits_pdu : (R : State) (h : Header) (id : TransactionId) (s : SessionFields) (parts : Option SessionFields → Turning.Parts) → found R.sessions id ≡ Some s →
    is_same (id_of h) id ≡ true →
    (found R.sessions (id_of h) ≡ Some s → Waits R (id_of h) s (parts (Some s))) → Waits R id s (Turning.where_ours R h (parts (session_of R (id_of h))))
waits_pdu R h id s parts e same w =
    let it = same_is (id_of h) id same in
    let here : found R.sessions (id_of h) ≡ Some s = ap (found R.sessions) it ∙ e in
    subst (λ (n : TransactionId). Waits R n s (Turning.where_ours R h (parts (session_of R (id_of h))))) it (
    subst (λ (o : Option SessionFields). Waits R (id_of h) s (Turning.where_ours R h (parts o))) (sym here) (ours_waits R h s (parts (Some s)) here (w here))
    )

waits_of : (R : State) (V : World) (rs : List Reply) (i : Input) (id : TransactionId) (s : SessionFields) → AreDistinct R.sessions → found R.sessions id
    ≡ Some s → s.stage ≡ Waiting →
    R.mib.ack.at_limit ≢ handlers.Ignore → is_same (touched_in R i) id ≡ true → Waits R id s (Turning.parts_of R V rs i)
waits_of R V rs (MetadataPdu now h m) id s d e w ne same = waits_pdu R h id s (Turning.metadata_parts R V rs h m) e same
    (λ here. waits_metadata R V rs h m s s.stage here w)
waits_of R V rs (DataPdu now h piece) id s d e w ne same = waits_pdu R h id s (Turning.data_parts R V rs h piece) e same
    (λ here. waits_data R V rs h piece s here w)
waits_of R V rs (EofPdu now h eof) id s d e w ne same = waits_pdu R h id s (Turning.eof_parts R V rs h eof) e same
    (λ here. waits_eof R V rs h eof s s.stage here w)
waits_of R V rs (AckPdu now h ack) id s d e w ne same =
    waits_pdu R h id s (Turning.ack_parts R h ack) e same (λ here. waits_ack R h ack s s.stage d here (found_name R.sessions (id_of h) s here) w)
waits_of R V rs (PromptPdu now h prompt) id s d e w ne same = waits_pdu R h id s (Turning.prompt_parts R h prompt) e same
    (λ here. waits_prompt R h prompt s here w)
waits_of R V rs (OtherPdu now h) id s d e w ne same =
    either_way (Waits R id s) (Handing.is_ours R h) (Turning.keeps R (Turning.quiet became.NotOurs))
    (Turning.keeps R (Turning.quiet (Turning.foreign h))) (Same e refl)
    (Same e refl)
waits_of R V rs (Expire now) id s d e w ne same =
    waits_due R V id s (Dues.first_due R R.sessions) d e (found_name R.sessions id s e) w ne refl same
waits_of R V rs (Work now) id s d e w ne same = Same e refl
waits_of R V rs (Finish now) id s d e w ne same = waits_finish R id s (Dues.first_over R.world R.sessions) d e w refl same
waits_of R V rs (CancelAsked now n) id s d e w ne same =
    let it = same_is n id same in
    let here : found R.sessions n ≡ Some s = ap (found R.sessions) it ∙ e in
    subst (λ (x : TransactionId). Waits R x s (Turning.cancel_parts R rs n (session_of R n))) it (
    subst (λ (o : Option SessionFields). Waits R n s (Turning.cancel_parts R rs n o)) (sym here) (waits_cancel R rs n s s.stage d here w)
    )
waits_of R V rs ForgetAsked id s d e w ne same = Same e refl
waits_of R V rs (ClockMoved now) id s d e w ne same = Same e refl
waits_of R V rs NotTaken id s d e w ne same = Same e refl

-- ---- over all inputs

gone_while : (R : State) (inputs : List Input) (id : TransactionId) → session_of R id ≡ None → sent_while R inputs id ≡ 0
gone_while R [] id e = refl
gone_while R (i ∷ is) id e =
    cond-false (waits_in (session_of R id)) (sent_for R i id + sent_while (Turning.after_input R i) is id) 0 (ap waits_in e)

pub sent_at_most : SentAtMost
sent_at_most R [] id s d e w ne small = omega (arith, small)
sent_at_most R (i ∷ is) id s d e w ne small =
    let next = Turning.after_input R i in
    let here : sent_while R (i ∷ is) id ≡ sent_for R i id + sent_while next is id =
    cond-true (waits_in (session_of R id)) (sent_for R i id + sent_while next is id) 0 (ap waits_in e ∙ ap is_waiting w) in
    let apart = distinct_after R i d in
    let sent = length (Turning.parts R i).answer.finished in
    elim (cases_Bool (is_same (touched R i) id)) [
      | inr other ↦
          let none : sent_for R i id ≡ 0 = cond-false (is_same (touched R i) id) sent 0 other in
          omega (arith, here, none, sent_at_most next is id s apart (others_stay R i id other ∙ e) w ne small)
      | inl same ↦
          let some : sent_for R i id ≡ sent = cond-true (is_same (touched R i) id) sent 0 same in
          elim (waits_of (Handing.later (now_of i) R) (run R.world (Handing.handed R i)) (replies R.world (Handing.handed R i)) i id s d e w ne same) [
            | Same found quiet ↦ omega (arith, here, some, ap length quiet, sent_at_most next is id s apart found w ne small)
            | Sent t found waits more room one ↦
                omega (arith, here, some, one, more, sent_at_most next is id t apart found waits ne (omega (arith, more, room)))
            | Gone found quiet ↦ omega (arith, here, some, ap length quiet, gone_while next is id found, small)
          ]
    ]
