-- A sender's cancel in the middle of a list is acknowledged, and nothing else changes.
use Rattle.std.specs.Prelude.{slice_get}
use Rattle.std.proofs.Common.{◌≡◌, ℕ, zero, suc, ◌<◌, true, not, ◌&&◌, ◌==◌, List, [], ◌∷◌, length, Option, Some, None, refl, ap, ◌∙◌, arith}
use Rattle.std.proofs.lemmas.Bool.{cond-true, and_from}
use Rattle.cfdp_directives.specs.declared.ack.TransactionStatus.TheVariants.{Active}
use Rattle.cfdp_pdus.specs.declared.eof.Eof.{Eof}
use Rattle.cfdp_pdus.specs.declared.header.Header.{Header}
use Rattle.cfdp_sessions.specs.Sessions.{SessionFields}
use Rattle.cfdp_sessions.specs.declared.session.Stage.{Stage}
use Rattle.cfdp_sessions.specs.declared.session.Stage.TheVariants.{Held, Known, Over, Waiting}
use Rattle.cfdp_transactions.specs.Entry.{id_of}
use Rattle.cfdp_transactions.specs.World.{World}
use Rattle.cfdp_transactions.specs.declared.event.Event.TheVariants.{Eof as EofCame}
use Rattle.cfdp_transactions.specs.declared.reply.Reply.{Reply}
use Rattle.cfdp_receiver.specs.declared.indication.Word.TheVariants as words
use Rattle.cfdp_receiver.specs.State.{EofPdu, session_of}
use Rattle.cfdp_receiver.specs.Handing.{eof_events, is_list_begun, is_ours, of_session, where_known}
use Rattle.cfdp_receiver.specs.StateMachine.{StateMachineFields, AnswerParts, answer_in}
use Rattle.cfdp_receiver.specs.code.StateMachine.{AtIndex, IsSessionAt, Turns}
use Rattle.cfdp_receiver.specs.Turning as Turning
use Rattle.cfdp_receiver.proofs.LateTurns.{turns_by}

session_there : (ss : List SessionFields) (index : ℕ) → index < length ss → (s : SessionFields) × (slice_get ss index ≡ Some s)
session_there [] index within = absurd (omega (arith, within))
session_there (s ∷ ss) zero within = (s, refl)
session_there (s ∷ ss) (suc index) within = session_there ss index (omega (arith, within))

nothing_known : (stage : Stage) → where_known stage [] ≡ []
nothing_known (Held eof) = refl
nothing_known Known = refl
nothing_known (Over ending) = refl
nothing_known Waiting = refl

nothing_handed : (o : Option SessionFields) → of_session o [] ≡ []
nothing_handed None = refl
nothing_handed (Some s) = nothing_known s.stage

pub eof_begun : (M : StateMachineFields) (a : AnswerParts) (h : Header) (eof : Eof) (index : ℕ) → is_ours M.state h ≡ true →
    IsSessionAt M.state (id_of h) index → AtIndex M.state.sessions index (λ s. s.stage ≡ Known) → not (eof.condition == 0) ≡ true →
    is_list_begun M.state (id_of h) ≡ true → answer_in M a ≡ Turning.acks_only h eof Active words.ListBegun → Turns M M a (EofPdu M.state.now h eof)
eof_begun M a h eof index ours here known wrong begun answer =
    let R = M.state in
    let it = session_there R.sessions index here.within in
    let s = it.0 in
    let found : session_of R (id_of h) ≡ Some s = here.found ∙ it.1 in
    let both = and_from (not (eof.condition == 0)) (is_list_begun R (id_of h)) wrong begun in
    let kept = Turning.keeps R (Turning.acks_only h eof Active words.ListBegun) in
    let o = session_of R (id_of h) in
    turns_by M M a (EofPdu R.now h eof) [] (λ (V : World) (rs : List Reply). kept)
    (cond-true (is_ours R h) (of_session o (eof_events R h eof)) [] ours
    ∙ ap (of_session o) (cond-true (not (eof.condition == 0) && is_list_begun R (id_of h)) [] (EofCame h eof ∷ []) both)
    ∙ nothing_handed o)
    (λ (V : World) (rs : List Reply). cond-true (is_ours R h) (Turning.eof_parts R V rs h eof o) (Turning.keeps R (Turning.quiet (Turning.foreign h))) ours
    ∙ ap (Turning.eof_parts R V rs h eof) found
    ∙ ap (Turning.eof_stage R V rs h eof s) (known s it.1)
    ∙ cond-true (not (eof.condition == 0) && is_list_begun R (id_of h)) kept (Turning.takes_eof R V rs h eof s) both)
    refl refl refl refl refl answer
