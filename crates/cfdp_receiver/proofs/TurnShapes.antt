-- What a turn does to the sessions: nothing, or something to the sessions of one name.
use Rattle.std.specs.Prelude.{⊤}
use Rattle.std.proofs.Common.{◌≡◌, ◌⊎◌, inl, inr, ℕ, Bool, true, false, not, ◌&&◌, ◌||◌, ◌==◌, if◌then◌else◌, List, [], ◌∷◌, ◌++◌, Option, Some, None, refl, sym, ap, subst, ◌∙◌, append_assoc}
use Rattle.std.proofs.lemmas.List.{append-nil}
use Rattle.std.proofs.lemmas.Bool.{cond_both, cases_Bool, or_left, or_parts, false≢true}
use Rattle.std.proofs.lemmas.Option.{none-some}
use Rattle.cfdp_status.proofs.Choices.{either_way}
use Rattle.cfdp_status.specs.declared.transaction.TransactionId.{TransactionId}
use Rattle.cfdp_leases.specs.Leases.{is_same}
use Rattle.cfdp_pdus.specs.Values.{MetadataFields, FileDataFields}
use Rattle.cfdp_pdus.specs.declared.header.Header.{Header}
use Rattle.cfdp_pdus.specs.declared.eof.Eof.{Eof}
use Rattle.cfdp_directives.specs.declared.ack.Ack.{Ack}
use Rattle.cfdp_directives.specs.declared.ack.TransactionStatus.TheVariants.{Active, Terminated, Unrecognized}
use Rattle.cfdp_directives.specs.declared.prompt.Prompt.{Prompt}
use Rattle.cfdp_retransmission.specs.Timers.{restarted}
use Rattle.cfdp_retransmission.specs.declared.timer.Expiry.{Expiry}
use Rattle.cfdp_retransmission.specs.declared.timer.Expiry.TheVariants.{NotDue, Again, Limit}
use Rattle.cfdp_sessions.specs.Closed.{ClosedFields, names_in, remembers, most_closed, is_crowded, with_source}
use Rattle.cfdp_sessions.specs.Sessions.{SessionFields, session_id, found}
use Rattle.cfdp_sessions.specs.code.Sessions.{IsFound}
use Rattle.cfdp_sessions.specs.declared.session.Stage.{Stage}
use Rattle.cfdp_sessions.specs.declared.session.Stage.TheVariants.{Held, Known, Over, Waiting}
use Rattle.cfdp_sessions.proofs.ClosedNames.{name_remembered, remembered_is, remembered_stays, other_source_stays, source_remembers, forgotten_none}
use Rattle.cfdp_sessions.proofs.Names.{found_name, found_first, found_either, found_replaced, found_more, replaced_other, without_other, added_other}
use Rattle.cfdp_transactions.specs.Entry.{id_of}
use Rattle.cfdp_transactions.specs.declared.reply.Reply.{Reply}
use Rattle.cfdp_transactions.specs.declared.outcome.Outcome.{Outcome}
use Rattle.cfdp_transactions.specs.World.{World, entry_of}
use Rattle.cfdp_transactions.specs.Next.{run, replies}
use Rattle.cfdp_receiver.specs.declared.indication.Became.TheVariants as Became
use Rattle.cfdp_receiver.specs.declared.indication.Word.{Word}
use Rattle.cfdp_receiver.specs.declared.indication.Word.TheVariants as words
use Rattle.cfdp_receiver.specs.declared.mib.Handler.{Handler}
use Rattle.cfdp_receiver.specs.declared.mib.Handler.TheVariants as handlers
use Rattle.cfdp_receiver.specs.State.{State, begin, AnswerFields, Input, MetadataPdu, DataPdu, EofPdu, AckPdu, PromptPdu, OtherPdu, Expire, Work, Finish, CancelAsked, ForgetAsked, ClockMoved, NotTaken, now_of, session_of, is_closed, JointPhase, At_held, At_receiving, At_awaiting, At_executing, At_over, At_waiting, at_of, session_status, status_of, lacks_room}
use Rattle.cfdp_receiver.specs.Due as Due
use Rattle.cfdp_receiver.specs.Handing as Handing
use Rattle.cfdp_receiver.specs.Turning as Turning
use Rattle.cfdp_receiver.specs.Laws.{due_name, session_name, touched_in, touched, OthersStay, UnrecognizedIsTrue, HadSession, TerminatedIsTrue, is_forget, SourcesAreApart}
use Rattle.cfdp_receiver.proofs.AnswerParts.{heard_name}
use Rattle.cfdp_leases.proofs.Held.{same_itself}
use Rattle.cfdp_leases.proofs.Admitted.{same_is}

-- one of four, with the name that it is about
pub data Plain (R : State) (t : TransactionId) (p : Turning.Parts) : Type 0 where
  Keeps : (a : AnswerFields) → (e : p ≡ Turning.keeps R a) → Plain R t p
  Puts : (s : SessionFields) → (a : AnswerFields) → (name : session_id s ≡ t) → (e : p ≡ Turning.replaces_one R s a) → Plain R t p
  Adds : (s : SessionFields) → (a : AnswerFields) → (name : session_id s ≡ t) → (free : found R.sessions t ≡ None) → (new : is_closed R t ≡ false) →
      (e : p ≡ Turning.adds R s a) → Plain R t p
  Closes : (s : SessionFields) → (a : AnswerFields) → (name : session_id s ≡ t) → (was : IsFound R.sessions t) → (e : p ≡ Turning.closes R s a) →
      Plain R t p

-- or all names are forgotten
pub data Shape (R : State) (t : TransactionId) (p : Turning.Parts) : Type 0 where
  Plainly : (plain : Plain R t p) → Shape R t p
  Forgets : (a : AnswerFields) → (e : p ≡ Turning.forgets R a) → Shape R t p

said_keeps : (R : State) (t : TransactionId) (h : Header) (word : Word) → Plain R t (Turning.keeps R (Turning.said_of_header h word))
said_keeps R t h word = Keeps (Turning.said_of_header h word) refl

own_keeps : (R : State) (t : TransactionId) (s : SessionFields) (word : Word) → Plain R t (Turning.keeps R (Turning.said_word s word))
own_keeps R t s word = Keeps (Turning.said_word s word) refl

shape_metadata_stage : (R : State) (V : World) (rs : List Reply) (h : Header) (m : MetadataFields) (s : SessionFields) (stage : Stage) → session_id s ≡ id_of h
    →
    Plain R (id_of h) (Turning.metadata_stage R V rs h m s stage)
shape_metadata_stage R V rs h m s (Held eof) name =
    either_way (Plain R (id_of h)) h.acknowledged (Turning.joins R V rs h m) (Turning.keeps R (Turning.said_word s words.Idle)) (Puts _ _ refl refl)
    (own_keeps R (id_of h) s words.Idle)
shape_metadata_stage R V rs h m s Known name = Puts (Turning.heard_session R V s) (Turning.quiet (Turning.became_reply (id_of h) rs))
    (heard_name R V s ∙ name) refl
shape_metadata_stage R V rs h m s (Over ending) name = own_keeps R (id_of h) s words.Duplicate
shape_metadata_stage R V rs h m s Waiting name = own_keeps R (id_of h) s words.Duplicate

shape_metadata : (R : State) (V : World) (rs : List Reply) (h : Header) (m : MetadataFields) (s : Option SessionFields) → session_of R (id_of h) ≡ s →
    Plain R (id_of h) (Turning.metadata_parts R V rs h m s)
shape_metadata R V rs h m None e =
    let away = Turning.said_of_header h (Turning.turned_away R h) in
    cond_both (is_closed R (id_of h) || lacks_room R (id_of h)) (Turning.keeps R away) (Turning.begins R V rs h m) (Plain R (id_of h)) (λ b. Keeps away refl)
    (λ b. Adds _ _ refl e (or_parts (is_closed R (id_of h)) (lacks_room R (id_of h)) b).0 refl)
shape_metadata R V rs h m (Some s) e = shape_metadata_stage R V rs h m s s.stage (found_name R.sessions (id_of h) s e)

shape_data : (R : State) (V : World) (rs : List Reply) (h : Header) (piece : FileDataFields) (s : Option SessionFields) → session_of R (id_of h) ≡ s →
    Plain R (id_of h) (Turning.data_parts R V rs h piece s)
shape_data R V rs h piece None e = said_keeps R (id_of h) h (Turning.word_without_session R (id_of h))
shape_data R V rs h piece (Some s) e =
    either_way (Plain R (id_of h)) (Turning.is_known s.stage) (Turning.takes_piece R V rs h piece s) (Turning.keeps R (Turning.said_word s words.Idle))
    (Puts (Turning.heard_session R V s) _ (heard_name R V s ∙ found_name R.sessions (id_of h) s e) refl) (own_keeps R (id_of h) s words.Idle)

shape_eof_stage : (R : State) (V : World) (rs : List Reply) (h : Header) (eof : Eof) (s : SessionFields) (stage : Stage) → session_id s ≡ id_of h →
    Plain R (id_of h) (Turning.eof_stage R V rs h eof s stage)
shape_eof_stage R V rs h eof s (Held kept) name =
    let again = Turning.acks_only h eof Active words.Duplicate in
    let over = Turning.acks_only h eof Active words.Faulted in
    either_way (Plain R (id_of h)) (eof.condition == 0) (Turning.keeps R again) (Turning.replaces_one R (Turning.ended_by h eof s) over) (Keeps again refl)
    (Puts (Turning.ended_by h eof s) over name refl)
shape_eof_stage R V rs h eof s Known name =
    let begun = Turning.acks_only h eof Active words.ListBegun in
    either_way (Plain R (id_of h)) (not (eof.condition == 0) && Handing.is_list_begun R (id_of h)) (Turning.keeps R begun)
    (Turning.takes_eof R V rs h eof s) (Keeps begun refl) (Puts (Turning.heard_session R V s) _ (heard_name R V s ∙ name) refl)
shape_eof_stage R V rs h eof s (Over ending) name = Keeps (Turning.acks_only h eof Active words.Idle) refl
shape_eof_stage R V rs h eof s Waiting name = Keeps (Turning.acks_only h eof Active words.Idle) refl

shape_eof : (R : State) (V : World) (rs : List Reply) (h : Header) (eof : Eof) (s : Option SessionFields) → session_of R (id_of h) ≡ s →
    Plain R (id_of h) (Turning.eof_parts R V rs h eof s)
shape_eof R V rs h eof None e =
    let kept = Turning.acks_only h eof (status_of R (id_of h)) (Turning.word_without_session R (id_of h)) in
    let full = Turning.keeps R (Turning.said_of_header h (Turning.no_room_word R)) in
    let holds = Turning.held_first R h eof in
    cond_both (is_closed R (id_of h) || not (eof.condition == 0) || not h.acknowledged) (Turning.keeps R kept) (if lacks_room R (id_of h) then full else holds)
    (Plain R (id_of h)) (λ b. Keeps kept refl)
    (λ b.
    let both = or_parts (is_closed R (id_of h) || not (eof.condition == 0)) (not h.acknowledged) b in
    let unclosed = (or_parts (is_closed R (id_of h)) (not (eof.condition == 0)) both.0).0 in
    either_way (Plain R (id_of h)) (lacks_room R (id_of h)) full holds (said_keeps R (id_of h) h (Turning.no_room_word R))
    (Adds (Turning.begun_session R h (Held eof)) _ refl e unclosed refl))
shape_eof R V rs h eof (Some s) e = shape_eof_stage R V rs h eof s s.stage (found_name R.sessions (id_of h) s e)

-- what closes a session of that name
closes_name : (R : State) (s : SessionFields) (t : TransactionId) (a : AnswerFields) → session_id s ≡ t → IsFound R.sessions t →
    Plain R t (Turning.closes R s a)
closes_name R s t a name was = Closes s a name was refl

shape_ack_stage : (R : State) (h : Header) (ack : Ack) (s : SessionFields) (stage : Stage) → session_id s ≡ id_of h → IsFound R.sessions (id_of h) →
    Plain R (id_of h) (Turning.ack_stage R h ack s stage)
shape_ack_stage R h ack s (Held eof) name was = said_keeps R (id_of h) h words.Idle
shape_ack_stage R h ack s Known name was = said_keeps R (id_of h) h words.Idle
shape_ack_stage R h ack s (Over ending) name was = said_keeps R (id_of h) h words.Idle
shape_ack_stage R h ack s Waiting name was =
    let over = Turning.said_of_header h words.Acknowledged in
    either_way (Plain R (id_of h)) (ack.directive == 5) (Turning.closes R s over) (Turning.keeps R (Turning.said_of_header h words.Idle))
    (closes_name R s (id_of h) over name was) (said_keeps R (id_of h) h words.Idle)

shape_ack : (R : State) (h : Header) (ack : Ack) (s : Option SessionFields) → session_of R (id_of h) ≡ s → Plain R (id_of h) (Turning.ack_parts R h ack s)
shape_ack R h ack None e = said_keeps R (id_of h) h words.Idle
shape_ack R h ack (Some s) e = shape_ack_stage R h ack s s.stage (found_name R.sessions (id_of h) s e) (s, e)

roused_name : (R : State) (s : SessionFields) → session_id (Turning.roused R s) ≡ session_id s
roused_name R s = cond_both (Due.is_receiving_at (at_of R.world s)) (record s { timer = restarted R.now }) s
    (λ (t : SessionFields). session_id t ≡ session_id s)
    (λ e. refl) (λ e. refl)

shape_prompt : (R : State) (h : Header) (prompt : Prompt) (s : Option SessionFields) → session_of R (id_of h) ≡ s →
    Plain R (id_of h) (Turning.prompt_parts R h prompt s)
shape_prompt R h prompt None e = said_keeps R (id_of h) h words.Idle
shape_prompt R h prompt (Some s) e =
    either_way (Plain R (id_of h)) (s.header.acknowledged && Turning.takes_prompts (at_of R.world s))
    (Turning.replaces_one R (Turning.roused R s) (Turning.prompted R h s prompt)) (Turning.keeps R (Turning.said_of_header h words.Idle))
    (Puts (Turning.roused R s) (Turning.prompted R h s prompt) (roused_name R s ∙ found_name R.sessions (id_of h) s e) refl)
    (said_keeps R (id_of h) h words.Idle)

shape_gives_up : (R : State) (s : SessionFields) (condition : ℕ) (how : Handler) (at : JointPhase) → IsFound R.sessions (session_id s) →
    Plain R (session_id s) (Turning.gives_up R s condition how at)
shape_gives_up R s condition handlers.Ignore at was = Puts _ _ refl refl
shape_gives_up R s condition handlers.Cancel At_waiting was = Closes s _ refl was refl
shape_gives_up R s condition handlers.Cancel At_held was = Puts _ _ refl refl
shape_gives_up R s condition handlers.Cancel At_receiving was = Puts _ _ refl refl
shape_gives_up R s condition handlers.Cancel (At_awaiting made) was = Puts _ _ refl refl
shape_gives_up R s condition handlers.Cancel At_executing was = Puts _ _ refl refl
shape_gives_up R s condition handlers.Cancel At_over was = Puts _ _ refl refl
shape_gives_up R s condition handlers.Abandon At_waiting was = Closes s _ refl was refl
shape_gives_up R s condition handlers.Abandon At_held was = Closes s _ refl was refl
shape_gives_up R s condition handlers.Abandon At_receiving was = Puts _ _ refl refl
shape_gives_up R s condition handlers.Abandon (At_awaiting made) was = Puts _ _ refl refl
shape_gives_up R s condition handlers.Abandon At_executing was = Puts _ _ refl refl
shape_gives_up R s condition handlers.Abandon At_over was = Puts _ _ refl refl

-- whose timer is due is a session that is found by its name
abbrev pub IsDueOf : List SessionFields → Due.Due → Type 0
IsDueOf ss Due.Nothing_due = ⊤
IsDueOf ss (Due.Alive_due s) = IsFound ss (session_id s)
IsDueOf ss (Due.Stage_due s limit) = IsFound ss (session_id s)

found_self : (x : SessionFields) (xs : List SessionFields) → IsFound (x ∷ xs) (session_id x)
found_self x xs = found_first x xs (session_id x) (same_itself (session_id x))

due_later : (x : SessionFields) (xs : List SessionFields) (due : Due.Due) → IsDueOf xs due → IsDueOf (x ∷ xs) due
due_later x xs Due.Nothing_due d = tt
due_later x xs (Due.Alive_due s) d = found_either x xs (session_id s) d
due_later x xs (Due.Stage_due s limit) d = found_either x xs (session_id s) d

due_by_is : (expiry : Expiry) (alive : Bool) (x : SessionFields) (xs : List SessionFields) (later : Due.Due) → IsDueOf xs later →
    IsDueOf (x ∷ xs) (Due.due_by expiry alive x later)
due_by_is Again alive x xs later d = found_self x xs
due_by_is Limit alive x xs later d = found_self x xs
due_by_is NotDue true x xs later d = found_self x xs
due_by_is NotDue false x xs later d = due_later x xs later d

pub due_is : (R : State) (ss : List SessionFields) → IsDueOf ss (Due.first_due R ss)
due_is R [] = tt
due_is R (x ∷ xs) = due_by_is (Due.expiry_of R x) (Due.is_alive_due R x) x xs (Due.first_due R xs) (due_is R xs)

-- and so is what is over
abbrev pub IsOverOf : List SessionFields → Option SessionFields → Type 0
IsOverOf ss None = ⊤
IsOverOf ss (Some s) = IsFound ss (session_id s)

over_later : (x : SessionFields) (xs : List SessionFields) (o : Option SessionFields) → IsOverOf xs o → IsOverOf (x ∷ xs) o
over_later x xs None d = tt
over_later x xs (Some s) d = found_either x xs (session_id s) d

pub over_is : (W : World) (ss : List SessionFields) → IsOverOf ss (Due.first_over W ss)
over_is W [] = tt
over_is W (x ∷ xs) =
    cond_both (Due.is_over (at_of W x)) (Some x) (Due.first_over W xs) (IsOverOf (x ∷ xs)) (λ e. found_self x xs)
    (λ e. over_later x xs (Due.first_over W xs) (over_is W xs))

shape_due : (R : State) (V : World) (due : Due.Due) → IsDueOf R.sessions due → Plain R (due_name due) (Turning.due_parts R V due)
shape_due R V Due.Nothing_due d = Keeps (Turning.quiet Became.Nothing) refl
shape_due R V (Due.Alive_due s) d = Puts _ _ refl refl
shape_due R V (Due.Stage_due s false) d = Puts _ _ refl refl
shape_due R V (Due.Stage_due s true) d = shape_gives_up R s _ _ _ d

shape_session : (R : State) (s : SessionFields) (o : Outcome) → IsFound R.sessions (session_id s) → Plain R (session_id s) (Turning.finish_session R s o)
shape_session R s o was =
    let here = Turning.replaces_one R (Turning.waits_for_ack R s o) (Turning.sends_it s o words.Finished) in
    let sent = Turning.closes R (Turning.settled s o) (Turning.sends_it s o words.Closed) in
    let unsent = Turning.closes R (Turning.settled s o) (Turning.concluded s o words.Closed) in
    let gone = Turning.closes R (Turning.settled s o) (Turning.said_word s words.Closed) in
    let third = if not s.header.acknowledged then sent else here in
    let second = if not o.send then unsent else third in
    either_way (Plain R (session_id s)) s.is_abandoned gone second (Closes (Turning.settled s o) (Turning.said_word s words.Closed) refl was refl) (
    either_way (Plain R (session_id s)) (not o.send) unsent third (Closes (Turning.settled s o) (Turning.concluded s o words.Closed) refl was refl) (
    either_way (Plain R (session_id s)) (not s.header.acknowledged) sent here (Closes (Turning.settled s o) (Turning.sends_it s o words.Closed) refl was refl)
    (Puts (Turning.waits_for_ack R s o) (Turning.sends_it s o words.Finished) refl refl)
    )
    )

shape_finish : (R : State) (s : Option SessionFields) → IsOverOf R.sessions s → Plain R (session_name s) (Turning.finish_parts R s)
shape_finish R None d = Keeps (Turning.quiet Became.Nothing) refl
shape_finish R (Some s) d = shape_session R s (Turning.outcome_for s (entry_of R.world (session_id s))) d

shape_cancel_stage : (R : State) (rs : List Reply) (t : TransactionId) (s : SessionFields) (stage : Stage) → session_id s ≡ t → IsFound R.sessions t →
    Plain R t (Turning.cancel_stage R rs s stage)
shape_cancel_stage R rs t s (Held eof) name was = Puts (Turning.over_here R s 15) (Turning.said_word s words.Cancelled) name refl
shape_cancel_stage R rs t s Known name was =
    let handed = Turning.quiet (Turning.became_reply (session_id s) rs) in
    either_way (Plain R t) (Handing.is_list_begun R (session_id s)) (Turning.keeps R (Turning.said_word s words.ListBegun)) (Turning.keeps R handed)
    (own_keeps R t s words.ListBegun) (Keeps handed refl)
shape_cancel_stage R rs t s (Over ending) name was = own_keeps R t s words.Idle
shape_cancel_stage R rs t s Waiting name was = closes_name R s t (Turning.said_word s words.Closed) name was

shape_cancel : (R : State) (rs : List Reply) (id : TransactionId) (s : Option SessionFields) → session_of R id ≡ s → Plain R id (Turning.cancel_parts R rs id s)
shape_cancel R rs id None e = Keeps (Turning.quiet (Became.Said id words.Unknown)) refl
shape_cancel R rs id (Some s) e = shape_cancel_stage R rs id s s.stage (found_name R.sessions id s e) (s, e)

shape_ours : (R : State) (h : Header) (p : Turning.Parts) → Plain R (id_of h) p → Plain R (id_of h) (Turning.where_ours R h p)
shape_ours R h p hp =
    let away = Turning.quiet (Turning.foreign h) in
    either_way (Plain R (id_of h)) (Handing.is_ours R h) p (Turning.keeps R away) hp (Keeps away refl)

plain_of : (R : State) (V : World) (rs : List Reply) (i : Input) → is_forget i ≡ false → Plain R (touched_in R i) (Turning.parts_of R V rs i)
plain_of R V rs (MetadataPdu now h m) kept = shape_ours R h (Turning.metadata_parts R V rs h m (session_of R (id_of h)))
    (shape_metadata R V rs h m (session_of R (id_of h)) refl)
plain_of R V rs (DataPdu now h piece) kept = shape_ours R h (Turning.data_parts R V rs h piece (session_of R (id_of h)))
    (shape_data R V rs h piece (session_of R (id_of h)) refl)
plain_of R V rs (EofPdu now h eof) kept = shape_ours R h (Turning.eof_parts R V rs h eof (session_of R (id_of h)))
    (shape_eof R V rs h eof (session_of R (id_of h)) refl)
plain_of R V rs (AckPdu now h ack) kept = shape_ours R h (Turning.ack_parts R h ack (session_of R (id_of h))) (shape_ack R h ack (session_of R (id_of h)) refl)
plain_of R V rs (PromptPdu now h prompt) kept = shape_ours R h (Turning.prompt_parts R h prompt (session_of R (id_of h)))
    (shape_prompt R h prompt (session_of R (id_of h)) refl)
plain_of R V rs (OtherPdu now h) kept = shape_ours R h (Turning.keeps R (Turning.quiet Became.NotOurs)) (Keeps (Turning.quiet Became.NotOurs) refl)
plain_of R V rs (Expire now) kept = shape_due R V (Due.first_due R R.sessions) (due_is R R.sessions)
plain_of R V rs (Work now) kept = Keeps _ refl
plain_of R V rs (Finish now) kept = shape_finish R (Due.first_over R.world R.sessions) (over_is R.world R.sessions)
plain_of R V rs (CancelAsked now id) kept = shape_cancel R rs id (session_of R id) refl
plain_of R V rs ForgetAsked kept = absurd cc
plain_of R V rs (ClockMoved now) kept = Keeps (Turning.quiet Became.Nothing) refl
plain_of R V rs NotTaken kept = Keeps (Turning.quiet Became.TooFarAhead) refl

shape_of : (R : State) (V : World) (rs : List Reply) (i : Input) → Shape R (touched_in R i) (Turning.parts_of R V rs i)
shape_of R V rs (MetadataPdu now h m) = Plainly (plain_of R V rs (MetadataPdu now h m) refl)
shape_of R V rs (DataPdu now h piece) = Plainly (plain_of R V rs (DataPdu now h piece) refl)
shape_of R V rs (EofPdu now h eof) = Plainly (plain_of R V rs (EofPdu now h eof) refl)
shape_of R V rs (AckPdu now h ack) = Plainly (plain_of R V rs (AckPdu now h ack) refl)
shape_of R V rs (PromptPdu now h prompt) = Plainly (plain_of R V rs (PromptPdu now h prompt) refl)
shape_of R V rs (OtherPdu now h) = Plainly (plain_of R V rs (OtherPdu now h) refl)
shape_of R V rs (Expire now) = Plainly (plain_of R V rs (Expire now) refl)
shape_of R V rs (Work now) = Plainly (plain_of R V rs (Work now) refl)
shape_of R V rs (Finish now) = Plainly (plain_of R V rs (Finish now) refl)
shape_of R V rs (CancelAsked now id) = Plainly (plain_of R V rs (CancelAsked now id) refl)
shape_of R V rs ForgetAsked = Forgets (Turning.quiet Became.Nothing) refl
shape_of R V rs (ClockMoved now) = Plainly (plain_of R V rs (ClockMoved now) refl)
shape_of R V rs NotTaken = Plainly (plain_of R V rs NotTaken refl)

-- whatever the moment of R is: the parts speak of its sessions alone
pub shape : (R : State) (i : Input) → Shape (Handing.later (now_of i) R) (touched R i) (Turning.parts R i)
shape R i = shape_of (Handing.later (now_of i) R) (run R.world (Handing.handed R i)) (replies R.world (Handing.handed R i)) i

-- ---- the others

others_by : (R : State) (t : TransactionId) (p : Turning.Parts) → Shape R t p → (id : TransactionId) → is_same t id ≡ false → found p.sessions id
    ≡ found R.sessions id
others_by R t p (Plainly (Keeps a e)) id h = ap (λ (q : Turning.Parts). found q.sessions id) e
others_by R t p (Plainly (Puts s a name e)) id h =
    ap (λ (q : Turning.Parts). found q.sessions id) e ∙ replaced_other R.sessions s id (ap (λ (n : TransactionId). is_same n id) name ∙ h)
others_by R t p (Plainly (Adds s a name free new e)) id h =
    ap (λ (q : Turning.Parts). found q.sessions id) e ∙ added_other R.sessions s id (ap (λ (n : TransactionId). is_same n id) name ∙ h)
others_by R t p (Plainly (Closes s a name was e)) id h =
    ap (λ (q : Turning.Parts). found q.sessions id) e ∙ without_other R.sessions (session_id s) id (ap (λ (n : TransactionId). is_same n id) name ∙ h)
others_by R t p (Forgets a e) id h = ap (λ (q : Turning.Parts). found q.sessions id) e

pub others_stay : OthersStay
others_stay R i id h = others_by (Handing.later (now_of i) R) (touched R i) (Turning.parts R i) (shape R i) id h

-- ---- what is remembered

-- it has a session, or had one and is remembered, or some name was forgotten
abbrev Tracked : List SessionFields → ClosedFields → TransactionId → Type 0
Tracked sessions closed id = IsFound sessions id ⊎ ((remembers closed id ≡ true) ⊎ (closed.forgot ≡ true))

tracked_closing : (R : State) (s : SessionFields) (id : TransactionId) (a : AnswerFields) → Tracked R.sessions R.closed id →
    Tracked (Turning.closes R s a).sessions (Turning.closes R s a).closed id
tracked_closing R s id a tracked =
    let t = session_id s in
    let most = most_closed s.header in
    elim (cases_Bool (is_same t id)) [
      | inl same ↦ inr (inl (name_remembered R.closed most s.has_changed t id same))
      | inr other ↦ elim tracked [
        | inl f ↦ inl (f.0, without_other R.sessions t id other ∙ f.1)
        | inr rest ↦ elim rest [
          | inl closed ↦ inr (remembered_stays R.closed most s.has_changed t id closed)
          | inr forgot ↦ inr (inr (or_left R.closed.forgot (is_crowded most (names_in R.closed.sources t.source)) forgot))
        ]
      ]
    ]

tracked_adding : (R : State) (s : SessionFields) (id : TransactionId) → Tracked R.sessions R.closed id →
    Tracked (R.sessions ++ s ∷ []) (with_source R.closed s.header.source) id
tracked_adding R s id tracked = elim tracked [
  | inl f ↦ inl (found_more R.sessions s id f)
  | inr rest ↦ elim rest [
    | inl closed ↦ inr (inl (source_remembers R.closed s.header.source id ∙ closed))
    | inr forgot ↦ inr (inr forgot)
  ]
]

tracked_by : (R : State) (t : TransactionId) (p : Turning.Parts) → Shape R t p → (id : TransactionId) → Tracked R.sessions R.closed id →
    Tracked p.sessions p.closed id
tracked_by R t p (Plainly (Keeps a e)) id tracked = subst (λ (q : Turning.Parts). Tracked q.sessions q.closed id) (sym e) tracked
tracked_by R t p (Plainly (Puts s a name e)) id tracked = subst (λ (q : Turning.Parts). Tracked q.sessions q.closed id) (sym e) (
    elim tracked [ inl f ↦ inl (found_replaced R.sessions s id f) | inr rest ↦ inr rest ]
    )
tracked_by R t p (Plainly (Adds s a name free new e)) id tracked =
    subst (λ (q : Turning.Parts). Tracked q.sessions q.closed id) (sym e) (tracked_adding R s id tracked)
tracked_by R t p (Plainly (Closes s a name was e)) id tracked =
    subst (λ (q : Turning.Parts). Tracked q.sessions q.closed id) (sym e) (tracked_closing R s id a tracked)
tracked_by R t p (Forgets a e) id tracked = subst (λ (q : Turning.Parts). Tracked q.sessions q.closed id) (sym e) (inr (inr refl))

tracked_all : (R : State) (id : TransactionId) (inputs : List Input) → Tracked R.sessions R.closed id →
    Tracked (Turning.after_all R inputs).sessions (Turning.after_all R inputs).closed id
tracked_all R id [] tracked = tracked
tracked_all R id (i ∷ is) tracked =
    tracked_all (Turning.after_input R i) id is (tracked_by (Handing.later (now_of i) R) (touched R i) (Turning.parts R i) (shape R i) id tracked)

-- the status of what is tracked
not_unrecognized : (o : Option SessionFields) (closed forgot : Bool) → ((t : SessionFields) × (o ≡ Some t)) ⊎ ((closed ≡ true) ⊎ (forgot ≡ true)) →
    session_status o closed forgot ≡ Unrecognized → ⊥
not_unrecognized (Some t) closed forgot h e = absurd cc
not_unrecognized None true forgot h e = absurd cc
not_unrecognized None false true h e = absurd cc
not_unrecognized None false false (inl h) e = absurd (none-some h.0 h.1)
not_unrecognized None false false (inr (inl h)) e = absurd cc
not_unrecognized None false false (inr (inr h)) e = absurd cc

pub unrecognized_is_true : UnrecognizedIsTrue
unrecognized_is_true R s id inputs e indicated =
    let E = Turning.after_all R inputs in
    not_unrecognized (session_of E id) (is_closed E id) E.closed.forgot (tracked_all R id inputs (inl (s, e))) indicated

-- ---- who is closed

-- each name that is closed had a session after some of the inputs
abbrev Had : State → List Input → ClosedFields → Type 0
Had R inputs closed = (id : TransactionId) → remembers closed id ≡ true → HadSession R inputs id

after_append : (R : State) (xs : List Input) (i : Input) → Turning.after_all R (xs ++ i ∷ []) ≡ Turning.after_input (Turning.after_all R xs) i
after_append R [] i = refl
after_append R (x ∷ xs) i = after_append (Turning.after_input R x) xs i

had_more : (R : State) (inputs : List Input) (i : Input) (id : TransactionId) → HadSession R inputs id → HadSession R (inputs ++ i ∷ []) id
had_more R inputs i id h = record {
  front = h.front;
  back = h.back ++ i ∷ [];
  parts = ap (λ (xs : List Input). xs ++ i ∷ []) h.parts ∙ append_assoc h.front h.back (i ∷ []);
  session = h.session;
  found = h.found;
}

-- R is the state after these inputs, from R0 on
had_by : (R0 R : State) (inputs : List Input) (i : Input) (t : TransactionId) (p : Turning.Parts) → R.sessions ≡ (Turning.after_all R0 inputs).sessions →
    Shape R t p → Had R0 inputs R.closed → Had R0 (inputs ++ i ∷ []) p.closed
had_by R0 R inputs i t p same (Plainly (Keeps a e)) had id closed =
    had_more R0 inputs i id (had id (sym (ap (λ (q : Turning.Parts). remembers q.closed id) e) ∙ closed))
had_by R0 R inputs i t p same (Plainly (Puts s a name e)) had id closed =
    had_more R0 inputs i id (had id (sym (ap (λ (q : Turning.Parts). remembers q.closed id) e) ∙ closed))
had_by R0 R inputs i t p same (Plainly (Adds s a name free new e)) had id closed =
    had_more R0 inputs i id (had id (sym (source_remembers R.closed s.header.source id)
    ∙ sym (ap (λ (q : Turning.Parts). remembers q.closed id) e) ∙ closed))
had_by R0 R inputs i t p same (Plainly (Closes s a name was e)) had id closed =
    elim (remembered_is R.closed (most_closed s.header) s.has_changed (session_id s) id
    (sym (ap (λ (q : Turning.Parts). remembers q.closed id) e) ∙ closed)) [
      | inl here ↦ record {
        front = inputs;
        back = i ∷ [];
        parts = refl;
        session = was.0;
        found = sym (ap (λ (ss : List SessionFields). found ss id) same)
            ∙ ap (found R.sessions) (sym (same_is (session_id s) id here) ∙ name) ∙ was.1;
      }
      | inr later ↦ had_more R0 inputs i id (had id later)
    ]
had_by R0 R inputs i t p same (Forgets a e) had id closed =
    absurd (false≢true (sym (forgotten_none R.closed R.sessions id) ∙ sym (ap (λ (q : Turning.Parts). remembers q.closed id) e) ∙ closed))

had_all : (R0 : State) (done inputs : List Input) → Had R0 done (Turning.after_all R0 done).closed →
    Had R0 (done ++ inputs) (Turning.after_all R0 (done ++ inputs)).closed
had_all R0 done [] had = subst (λ (xs : List Input). Had R0 xs (Turning.after_all R0 xs).closed) (sym (append-nil done)) had
had_all R0 done (i ∷ is) had =
    let R = Turning.after_all R0 done in
    let step : Had R0 (done ++ i ∷ []) (Turning.parts R i).closed =
    had_by R0 (Handing.later (now_of i) R) done i (touched R i) (Turning.parts R i) refl (shape R i) had in
    let same : (Turning.after_all R0 (done ++ i ∷ [])).closed ≡ (Turning.parts R i).closed =
    ap (λ (x : State). x.closed) (after_append R0 done i) in
    let next = had_all R0 (done ++ i ∷ []) is (subst (Had R0 (done ++ i ∷ [])) (sym same) step) in
    subst (λ (xs : List Input). Had R0 xs (Turning.after_all R0 xs).closed) (append_assoc done (i ∷ []) is) next

terminated_closed : (o : Option SessionFields) (closed forgot : Bool) → session_status o closed forgot ≡ Terminated → closed ≡ true
terminated_closed (Some t) closed forgot e = absurd cc
terminated_closed None true forgot e = refl
terminated_closed None false true e = absurd cc
terminated_closed None false false e = absurd cc

pub terminated_is_true : TerminatedIsTrue
terminated_is_true mib W inputs id indicated =
    let R0 = begin mib W in
    let E = Turning.after_all R0 inputs in
    had_all R0 [] inputs (λ x h. absurd cc) id (terminated_closed (session_of E id) (is_closed E id) E.closed.forgot indicated)

-- ---- the names of another source

stays_by : (R : State) (t : TransactionId) (p : Turning.Parts) → Plain R t p → (id : TransactionId) → (t.source == id.source) ≡ false →
    remembers p.closed id ≡ remembers R.closed id
stays_by R t p (Keeps a e) id other = ap (λ (q : Turning.Parts). remembers q.closed id) e
stays_by R t p (Puts s a name e) id other = ap (λ (q : Turning.Parts). remembers q.closed id) e
stays_by R t p (Adds s a name free new e) id other =
    ap (λ (q : Turning.Parts). remembers q.closed id) e ∙ source_remembers R.closed s.header.source id
stays_by R t p (Closes s a name was e) id other =
    ap (λ (q : Turning.Parts). remembers q.closed id) e
    ∙ other_source_stays R.closed (most_closed s.header) s.has_changed (session_id s) id
    (ap (λ (n : TransactionId). n.source == id.source) name ∙ other)

pub sources_are_apart : SourcesAreApart
sources_are_apart R i id kept other =
    stays_by (Handing.later (now_of i) R) (touched R i) (Turning.parts R i)
    (plain_of (Handing.later (now_of i) R) (run R.world (Handing.handed R i)) (replies R.world (Handing.handed R i)) i kept) id other
