use Rattle.std.proofs.Common.{◌≡◌, Bool, [], sym, ap, ◌∙◌, refl}
use Rattle.cfdp_status.specs.declared.transaction.TransactionId.{TransactionId}
use Rattle.cfdp_sessions.specs.Sessions.{SessionFields}
use Rattle.cfdp_transactions.specs.declared.reply.Reply.{Reply}
use Rattle.cfdp_transactions.specs.World.{World}
use Rattle.std.specs.Prelude.{List}
use Rattle.cfdp_receiver.specs.declared.indication.Became.TheVariants.{Said}
use Rattle.cfdp_receiver.specs.declared.indication.Word.TheVariants as words
use Rattle.cfdp_receiver.specs.State.{AckPdu, moments, session_of}
use Rattle.cfdp_receiver.specs.StateMachine.{StateMachineFields, answer_in}
use Rattle.cfdp_receiver.specs.code.StateMachine.{machine_closed}
use Rattle.cfdp_receiver.specs.Turning as Turning
use Rattle.cfdp_receiver.proofs.Acknowledging.{acknowledged_closes}
use Rattle.cfdp_receiver.proofs.LateTurns.{turns_by}
use Rattle.cfdp_receiver.proofs.state_machine.StateMachine.ack.Goals as goal

pub returns-in-Waiting : goal.returns-in-Waiting
returns-in-Waiting c =
    let M = c.args.self.now in
    let R = M.state in
    let N = c.close.new.self in
    let h = c.args.header.now in
    let s = c.session-session.result.now in
    let e = c.session-session.ensures in
    let waits = ap (λ (t : SessionFields). t.stage) (sym c.session.view_is) ∙ c.in-Waiting.is in
    let closed : N ≡ machine_closed M s =
    c.close.ensures s e
    ∙ ap (λ (b : Bool). machine_closed M (record s { has_changed = b })) (ap (λ (t : SessionFields). t.has_changed) c.session.view_is) in
    let said =
    ap (answer_in N) c.said-in-Waiting.ensures
    ∙ ap (λ (n : TransactionId). Turning.quiet (Said n words.Acknowledged)) c.transaction_of-id.ensures in
    turns_by M N c.said-in-Waiting.result (AckPdu R.now h c.args.ack) []
    (λ (V : World) (rs : List Reply). Turning.closes R s (Turning.said_of_header h words.Acknowledged)) refl
    (λ (V : World) (rs : List Reply). acknowledged_closes R h c.args.ack s (sym c.is_ours.ensures ∙ c.if-not-is_ours.false) c.if-ack-eq-FINISHED.true
    (ap (session_of R) (sym c.transaction_of-id.ensures) ∙ c.in-Some.ensures.some.found ∙ e) waits)
    (ap (λ (X : StateMachineFields). X.state.world) closed)
    (ap (λ (X : StateMachineFields). X.state.mib) closed)
    (ap (λ (X : StateMachineFields). moments X.state) closed)
    (ap (λ (X : StateMachineFields). X.state.sessions) closed)
    (ap (λ (X : StateMachineFields). X.state.closed) closed)
    said
