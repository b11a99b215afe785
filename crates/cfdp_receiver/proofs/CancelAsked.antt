-- What the user asks for: a transaction is cancelled.
use Rattle.std.proofs.Common.{◌≡◌, Bool, true, false, if◌then◌else◌, List, [], ◌∷◌, Option, Some, refl, sym, ap, ◌∙◌}
use Rattle.cfdp_status.specs.declared.transaction.TransactionId.{TransactionId}
use Rattle.cfdp_pdus.specs.declared.eof.Eof.{Eof}
use Rattle.cfdp_sessions.specs.Sessions.{SessionFields, session_id, replaced}
use Rattle.cfdp_sessions.specs.declared.session.Ending.{Ending}
use Rattle.cfdp_sessions.specs.declared.session.Stage.{Stage}
use Rattle.cfdp_sessions.specs.declared.session.Stage.TheVariants.{Held, Known, Over, Waiting}
use Rattle.cfdp_sessions.proofs.Names.{found_name}
use Rattle.cfdp_transactions.specs.declared.event.Event.TheVariants.{Cancel}
use Rattle.cfdp_transactions.specs.declared.reply.Reply.{Reply}
use Rattle.cfdp_transactions.specs.World.{World}
use Rattle.cfdp_transactions.specs.Next.{next}
use Rattle.cfdp_receiver.specs.declared.indication.Became.TheVariants.{Said, Replied}
use Rattle.cfdp_receiver.specs.declared.indication.Word.TheVariants as words
use Rattle.cfdp_receiver.specs.State.{CancelAsked, session_of}
use Rattle.cfdp_receiver.specs.Handing.{is_list_begun, cancel_events, of_session, where_known}
use Rattle.cfdp_receiver.specs.StateMachine.{StateMachineFields, AnswerParts, answer_in}
use Rattle.cfdp_receiver.specs.code.StateMachine.{Turns, in_world, machine_closed, silent}
use Rattle.cfdp_receiver.specs.Turning as Turning
use Rattle.cfdp_receiver.proofs.LateTurns.{turns_by}

-- the machine with other sessions
abbrev pub with_sessions : StateMachineFields → List SessionFields → StateMachineFields
with_sessions M ss = record M { state = record M.state { sessions = ss } }

cancels_in : (M : StateMachineFields) (id : TransactionId) (s : SessionFields) (stage : Stage) → session_of M.state id ≡ Some s → s.stage ≡ stage →
    of_session (session_of M.state id) (cancel_events M.state id) ≡ where_known stage (cancel_events M.state id)
cancels_in M id s stage here is =
    ap (λ (o : Option SessionFields). of_session o (cancel_events M.state id)) here ∙ ap (λ (x : Stage). where_known x (cancel_events M.state id)) is

becomes_in : (M : StateMachineFields) (id : TransactionId) (s : SessionFields) (stage : Stage) → session_of M.state id ≡ Some s → s.stage ≡ stage →
    (rs : List Reply) → Turning.cancel_parts M.state rs id (session_of M.state id) ≡ Turning.cancel_stage M.state rs s stage
becomes_in M id s stage here is rs = ap (Turning.cancel_parts M.state rs id) here ∙ ap (Turning.cancel_stage M.state rs s) is

pub cancel_held : (M : StateMachineFields) (a : AnswerParts) (id : TransactionId) (s : SessionFields) (eof : Eof) → session_of M.state id ≡ Some s →
    s.stage ≡ Held eof → a ≡ silent (Said id words.Cancelled) →
    Turns M (with_sessions M (replaced M.state.sessions (Turning.over_here M.state s 15))) a (CancelAsked M.state.now id)
cancel_held M a id s eof here is said =
    let R = M.state in
    let N = with_sessions M (replaced R.sessions (Turning.over_here R s 15)) in
    turns_by M N a (CancelAsked R.now id) [] (λ (V : World) (rs : List Reply). Turning.replaces_one R (Turning.over_here R s 15)
    (Turning.said_word s words.Cancelled))
    (cancels_in M id s (Held eof) here is) (λ (V : World) (rs : List Reply). becomes_in M id s (Held eof) here is rs)
    refl refl refl refl refl
    (ap (answer_in N) said ∙ ap (λ (n : TransactionId). Turning.quiet (Said n words.Cancelled)) (sym (found_name R.sessions id s here)))

-- of one that the core knows, by whether its list has begun
known_parts : (M : StateMachineFields) (id : TransactionId) (s : SessionFields) (b : Bool) → session_of M.state id ≡ Some s → s.stage ≡ Known →
    is_list_begun M.state id ≡ b → (rs : List Reply) →
    Turning.cancel_parts M.state rs id (session_of M.state id) ≡ (if b then Turning.keeps M.state (Turning.said_word s words.ListBegun)
    else Turning.keeps M.state (Turning.quiet (Turning.became_reply (session_id s) rs)))
known_parts M id s b here is begun rs =
    becomes_in M id s Known here is rs
    ∙ ap (λ (x : Bool). if x then Turning.keeps M.state (Turning.said_word s words.ListBegun)
    else Turning.keeps M.state (Turning.quiet (Turning.became_reply (session_id s) rs)))
    (ap (is_list_begun M.state) (found_name M.state.sessions id s here) ∙ begun)

known_events : (M : StateMachineFields) (id : TransactionId) (s : SessionFields) (b : Bool) → session_of M.state id ≡ Some s → s.stage ≡ Known →
    is_list_begun M.state id ≡ b → of_session (session_of M.state id) (cancel_events M.state id) ≡ (if b then [] else Cancel id ∷ [])
known_events M id s b here is begun = cancels_in M id s Known here is ∙ ap (λ (x : Bool). if x then [] else Cancel id ∷ []) begun

pub cancel_known : (M : StateMachineFields) (V : World) (reply : Reply) (a : AnswerParts) (id : TransactionId) (s : SessionFields) →
    session_of M.state id ≡ Some s → s.stage ≡ Known → is_list_begun M.state id ≡ false → next M.state.world (Cancel id) ≡ (V, reply) →
    a ≡ silent (Replied id reply) → Turns M (in_world V M) a (CancelAsked M.state.now id)
cancel_known M V reply a id s here is unbegun indicated said =
    let R = M.state in
    turns_by M (in_world V M) a (CancelAsked R.now id) (Cancel id ∷ [])
    (λ (U : World) (rs : List Reply). Turning.keeps R (Turning.quiet (Turning.became_reply (session_id s) rs)))
    (known_events M id s false here is unbegun) (λ (U : World) (rs : List Reply). known_parts M id s false here is unbegun rs)
    (sym (ap (λ (x : World × Reply). x.0) indicated)) refl refl refl refl
    (ap (answer_in (in_world V M)) said ∙ ap (λ (x : World × Reply). Turning.quiet (Replied id x.1)) (sym indicated)
    ∙ ap (λ (n : TransactionId). Turning.quiet (Replied n (next R.world (Cancel id)).1)) (sym (found_name R.sessions id s here)))

pub cancel_begun : (M : StateMachineFields) (a : AnswerParts) (id : TransactionId) (s : SessionFields) → session_of M.state id ≡ Some s →
    s.stage ≡ Known → is_list_begun M.state id ≡ true → a ≡ silent (Said id words.ListBegun) → Turns M M a (CancelAsked M.state.now id)
cancel_begun M a id s here is begun said =
    let R = M.state in
    turns_by M M a (CancelAsked R.now id) [] (λ (V : World) (rs : List Reply). Turning.keeps R (Turning.said_word s words.ListBegun))
    (known_events M id s true here is begun) (λ (V : World) (rs : List Reply). known_parts M id s true here is begun rs)
    refl refl refl refl refl
    (ap (answer_in M) said ∙ ap (λ (n : TransactionId). Turning.quiet (Said n words.ListBegun)) (sym (found_name R.sessions id s here)))

pub cancel_waiting : (M : StateMachineFields) (a : AnswerParts) (id : TransactionId) (s : SessionFields) → session_of M.state id ≡ Some s →
    s.stage ≡ Waiting → a ≡ silent (Said id words.Closed) → Turns M (machine_closed M s) a (CancelAsked M.state.now id)
cancel_waiting M a id s here is said =
    let R = M.state in
    turns_by M (machine_closed M s) a (CancelAsked R.now id) []
    (λ (V : World) (rs : List Reply). Turning.closes R s (Turning.said_word s words.Closed))
    (cancels_in M id s Waiting here is) (λ (V : World) (rs : List Reply). becomes_in M id s Waiting here is rs)
    refl refl refl refl refl
    (ap (answer_in (machine_closed M s)) said
    ∙ ap (λ (n : TransactionId). Turning.quiet (Said n words.Closed)) (sym (found_name R.sessions id s here)))

pub cancel_over : (M : StateMachineFields) (a : AnswerParts) (id : TransactionId) (s : SessionFields) (ending : Ending) → session_of M.state id ≡ Some s →
    s.stage ≡ Over ending → a ≡ silent (Said id words.Idle) → Turns M M a (CancelAsked M.state.now id)
cancel_over M a id s ending here is said =
    let R = M.state in
    turns_by M M a (CancelAsked R.now id) [] (λ (V : World) (rs : List Reply). Turning.keeps R (Turning.said_word s words.Idle))
    (cancels_in M id s (Over ending) here is) (λ (V : World) (rs : List Reply). becomes_in M id s (Over ending) here is rs)
    refl refl refl refl refl
    (ap (answer_in M) said ∙ ap (λ (n : TransactionId). Turning.quiet (Said n words.Idle)) (sym (found_name R.sessions id s here)))
