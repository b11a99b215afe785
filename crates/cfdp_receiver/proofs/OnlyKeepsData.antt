-- File data that is only kept: nothing is sent with it.
use Rattle.std.proofs.Common.{◌≡◌, Bool, true, false, ◌&&◌, if◌then◌else◌, List, [], ◌∷◌, length, Option, Some, refl, sym, ap, ◌∙◌}
use Rattle.std.proofs.lemmas.Bool.{cond-true}
use Rattle.cfdp_directives.specs.Reading.{NakFields}
use Rattle.cfdp_pdus.specs.Values.{FileDataFields}
use Rattle.cfdp_pdus.specs.declared.header.Header.{Header}
use Rattle.cfdp_sessions.specs.Sessions.{SessionFields, session_id}
use Rattle.cfdp_sessions.specs.declared.session.Stage.{Stage}
use Rattle.cfdp_sessions.specs.declared.session.Stage.TheVariants.{Known}
use Rattle.cfdp_transactions.specs.Entry.{id_of}
use Rattle.cfdp_transactions.specs.World.{World, entry_of}
use Rattle.cfdp_transactions.specs.declared.event.Event.TheVariants.{Data as DataCame}
use Rattle.cfdp_transactions.specs.declared.reply.Reply.{Reply}
use Rattle.cfdp_transactions.specs.Next.{next}
use Rattle.cfdp_receiver.specs.declared.indication.Became.TheVariants.{Replied}
use Rattle.cfdp_receiver.specs.declared.indication.Indication.{Indication}
use Rattle.cfdp_receiver.specs.declared.indication.Indication.TheVariants.{FileSegmentRecv}
use Rattle.cfdp_receiver.specs.State.{State, DataPdu, AnswerFields, moments, at_of, session_of}
use Rattle.cfdp_receiver.specs.Due.{is_receiving_at}
use Rattle.cfdp_receiver.specs.Handing.{is_ours, of_session, where_known}
use Rattle.cfdp_receiver.specs.StateMachine.{StateMachineFields, AnswerParts, answer_in}
use Rattle.cfdp_receiver.specs.code.StateMachine.{Turns, machine_heard, in_world, silent}
use Rattle.cfdp_receiver.specs.Turning.{asks_at_once, asks_stage, progress_at, data_parts, foreign, is_immediate, is_kept_by, is_known, keeps, quiet, takes_piece}
use Rattle.cfdp_receiver.proofs.LateTurns.{turns_by}

-- what the user is notified of
abbrev pub indications_of : Reply → Header → FileDataFields → List Indication
indications_of reply h p = if is_kept_by reply then FileSegmentRecv (id_of h) p.offset (length p.octets) ∷ [] else []

abbrev with_naks : AnswerFields → List NakFields → AnswerFields
with_naks a naks = record a { naks = naks }

pub only_kept : (M N : StateMachineFields) (a : AnswerParts) (h : Header) (p : FileDataFields) (s : SessionFields) →
    is_ours M.state h ≡ true → session_of M.state (id_of h) ≡ Some s → s.stage ≡ Known →
    N ≡ machine_heard M.state.world (in_world (next M.state.world (DataCame h p)).0 M) s →
    asks_at_once M.state (next M.state.world (DataCame h p)).0 s ≡ [] →
    a ≡ record (silent (Replied (id_of h) (next M.state.world (DataCame h p)).1)) { indications = indications_of (next M.state.world (DataCame h p)).1 h p } →
    Turns M N a (DataPdu M.state.now h p)
only_kept M N a h p s ours found known hears none answers =
    let R = M.state in
    let V = (next R.world (DataCame h p)).0 in
    let reply = (next R.world (DataCame h p)).1 in
    let last = quiet (Replied (id_of h) reply) in
    turns_by M N a (DataPdu R.now h p) (DataCame h p ∷ []) (λ (V : World) (rs : List Reply). takes_piece R V rs h p s)
    (
    cond-true (is_ours R h) (of_session (session_of R (id_of h)) (DataCame h p ∷ [])) [] ours
    ∙ ap (λ (o : Option SessionFields). of_session o (DataCame h p ∷ [])) found
    ∙ ap (λ (stage : Stage). where_known stage (DataCame h p ∷ [])) known
    )
    (λ V rs.
    cond-true (is_ours R h) (data_parts R V rs h p (session_of R (id_of h))) (keeps R (quiet (foreign h))) ours
    ∙ ap (data_parts R V rs h p) found
    ∙ cond-true (is_known s.stage) (takes_piece R V rs h p s) _ (ap is_known known))
    (ap (λ (X : StateMachineFields). X.state.world) hears)
    (ap (λ (X : StateMachineFields). X.state.mib) hears)
    (ap (λ (X : StateMachineFields). moments X.state) hears)
    (ap (λ (X : StateMachineFields). X.state.sessions) hears)
    (ap (λ (X : StateMachineFields). X.state.closed) hears)
    (ap (answer_in N) answers ∙ ap (with_naks (record last { indications = indications_of reply h p })) (sym none))

none_if : (b acknowledged receiving some : Bool) (naks : List NakFields) → b ≡ false → (if b && acknowledged && receiving && some then naks else []) ≡ []
none_if true acknowledged receiving some naks e = absurd cc
none_if false acknowledged receiving some naks e = refl

-- nothing is asked for at once where gaps are asked for after the EOF PDU
pub none_deferred : (R : State) (V : World) (s : SessionFields) → is_immediate R.mib.nak_mode ≡ false → asks_at_once R V s ≡ []
none_deferred R V s deferred =
    none_if (is_immediate R.mib.nak_mode) s.header.acknowledged (is_receiving_at (at_of V s)) _
    (asks_stage R.mib s.header (progress_at (entry_of R.world (session_id s))) s.stage (entry_of V (session_id s))) deferred
