use Rattle.std.proofs.Common.{◌≡◌, ℕ, Bool, List, [], ◌∷◌, sym, ap, subst, ◌∙◌}
use Rattle.cfdp_status.specs.declared.transaction.TransactionId.{TransactionId}
use Rattle.std.specs.Prelude.{slice_get}
use Rattle.std.proofs.lemmas.Option.{same_Some}
use Rattle.cfdp_retransmission.specs.Timers.{restarted}
use Rattle.cfdp_retransmission.specs.declared.timer.Timer.{Timer}
use Rattle.cfdp_sessions.specs.Sessions.{SessionFields, AreDistinct, session_id, replaced}
use Rattle.cfdp_sessions.specs.declared.session.Stage.TheVariants.{Waiting}
use Rattle.cfdp_transactions.specs.Writable.{finished_octets}
use Rattle.cfdp_receiver.specs.declared.indication.Became.TheVariants.{Said}
use Rattle.cfdp_receiver.specs.declared.indication.Conclusion.{Conclusion}
use Rattle.cfdp_receiver.specs.declared.indication.Indication.TheVariants.{TransactionFinished}
use Rattle.cfdp_receiver.specs.declared.indication.Word.TheVariants as words
use Rattle.cfdp_receiver.specs.StateMachine.{StateMachineFields, AnswerParts}
use Rattle.cfdp_receiver.specs.code.StateMachine.{Concludes, machine_closed, silent}
use Rattle.cfdp_receiver.specs.Turning.{has_changed, settled, waits_for_ack}
use Rattle.cfdp_receiver.proofs.CancelAsked.{with_sessions}
use Rattle.cfdp_receiver.proofs.Concluding.{ended, ended_and_sent, closed_with, concludes_abandoned, concludes_unsent, concludes_waiting, concludes_closed}
use Rattle.cfdp_receiver.proofs.state_machine.StateMachine.conclude.Goals as goal

abbrev waiting : SessionFields → Bool → List ℕ → Timer → SessionFields
waiting s changed octets timer = record s { stage = Waiting; has_changed = changed; finished = octets; timer = timer }

pub returns-then-session : goal.returns-then-session
returns-then-session c outcome sent changed conclusion octets session at =
    let M = c.args.self.now in
    let s = c.session-session.result.now in
    let a = c.said.result in
    let N = c.close.new.self in
    let field = ap (λ (x : SessionFields). x.is_abandoned) (sym c.session.view_is) ∙ c.if-session.true in
    let said = c.said.ensures ∙ ap (λ (n : TransactionId). silent (Said n words.Closed)) c.name-id.ensures in
    let same : N ≡ machine_closed M (settled s outcome) =
    c.close.ensures s c.session-session.ensures ∙ ap (λ (b : Bool). machine_closed M (record s { has_changed = b })) changed in
    let done = concludes_abandoned M a s outcome field said in
    subst (λ (x : SessionFields). Concludes M N a x outcome) (same_Some s session (sym c.session-session.ensures ∙ at))
    (subst (λ (X : StateMachineFields). Concludes M X a s outcome) (sym same) done)

pub returns-then-not-is_sent : goal.returns-then-not-is_sent
returns-then-not-is_sent c outcome sent changed conclusion octets session at =
    let M = c.args.self.now in
    let s = c.session-session.result.now in
    let a = c.with_indication.result in
    let N = c.close-then-not-is_sent.new.self in
    let field = ap (λ (x : SessionFields). x.is_abandoned) (sym c.session.view_is) ∙ c.if-session.false in
    let said =
    c.with_indication.ensures
    ∙ ap (λ (b : AnswerParts). record b { indications = TransactionFinished c.name-id.result c.args.conclusion ∷ [] }) c.said-then-not-is_sent.ensures
    ∙ ap (λ (n : TransactionId). ended n c.args.conclusion words.Closed) c.name-id.ensures
    ∙ ap (λ (k : Conclusion). ended (session_id s) k words.Closed) conclusion in
    let same : N ≡ machine_closed M (settled s outcome) =
    c.close-then-not-is_sent.ensures s c.session-session.ensures ∙ ap (λ (b : Bool). machine_closed M (record s { has_changed = b })) changed in
    let done = concludes_unsent M a s outcome field (sym sent ∙ c.if-not-is_sent.true) said in
    subst (λ (x : SessionFields). Concludes M N a x outcome) (same_Some s session (sym c.session-session.ensures ∙ at))
    (subst (λ (X : StateMachineFields). Concludes M X a s outcome) (sym same) done)

pub returns-then-session-2 : goal.returns-then-session-2
returns-then-session-2 c outcome sent changed conclusion octets session at =
    let M = c.args.self.now in
    let s = c.session-session.result.now in
    let v = c.self.view_is in
    let id = c.name-id.result in
    let a = c.with_indication-then-session-2.result in
    let field = ap (λ (x : SessionFields). x.is_abandoned) (sym c.session.view_is) ∙ c.if-session.false in
    let acked = ap (λ (x : SessionFields). x.header.acknowledged) (sym c.session.view_is) ∙ c.if-session-2.true in
    let indicated = TransactionFinished id c.args.conclusion ∷ [] in
    let said =
    c.with_indication-then-session-2.ensures
    ∙ ap (λ (b : AnswerParts). record b { indications = indicated })
    (c.with_finished.ensures ∙ ap (λ (b : AnswerParts). record b { finished = id ∷ [] }) c.said-then-session-2.ensures)
    ∙ ap (λ (n : TransactionId). ended_and_sent n c.args.conclusion words.Finished) c.name-id.ensures
    ∙ ap (λ (k : Conclusion). ended_and_sent (session_id s) k words.Finished) conclusion in
    let here = ap (λ (X : StateMachineFields). slice_get X.state.sessions c.args.index) v ∙ c.session-session.ensures in
    let waited : c.wait.new.self ≡ replaced M.state.sessions (waits_for_ack M.state s outcome) =
    c.wait.ensures s here
    ∙ ap (λ (X : StateMachineFields). replaced X.state.sessions (waiting s c.args.has_changed c.args.octets.items c.start-timer.result)) v
    ∙ ap (λ (b : Bool). replaced M.state.sessions (waiting s b c.args.octets.items c.start-timer.result)) changed
    ∙ ap (λ (xs : List ℕ). replaced M.state.sessions (waiting s (has_changed outcome.finished) xs c.start-timer.result)) octets
    ∙ ap (λ (t : Timer). replaced M.state.sessions (waiting s (has_changed outcome.finished) (finished_octets outcome) t))
    (c.start-timer.ensures ∙ ap (λ (X : StateMachineFields). restarted X.state.now) v) in
    let same = ap (λ (X : StateMachineFields). with_sessions X c.wait.new.self) v ∙ ap (with_sessions M) waited in
    let N : StateMachineFields = record {
      state = record {
        world = c.self.inside.entity;
        mib = c.self.inside.mib;
        now = c.self.inside.latest;
        seen = c.self.inside.seen;
        sessions = c.wait.new.self;
        closed = c.self.inside.closed;
      };
      last_finished = c.self.inside.last_finished;
      turns = c.self.inside.turns;
    } in
    let done = concludes_waiting M c.args.index a s outcome c.session-session.ensures field (sym sent ∙ c.if-not-is_sent.false) acked said in
    subst (λ (x : SessionFields). Concludes M N a x outcome) (same_Some s session (sym c.session-session.ensures ∙ at))
    (subst (λ (X : StateMachineFields). Concludes M X a s outcome) (sym same) done)

pub returns : goal.returns
returns c outcome sent changed conclusion octets session at =
    let M = c.args.self.now in
    let s = c.session-session.result.now in
    let id = c.name-id.result in
    let a = c.with_indication-2.result in
    let field = ap (λ (x : SessionFields). x.is_abandoned) (sym c.session.view_is) ∙ c.if-session.false in
    let acked = ap (λ (x : SessionFields). x.header.acknowledged) (sym c.session.view_is) ∙ c.if-session-2.false in
    let indicated = TransactionFinished id c.args.conclusion ∷ [] in
    let said =
    c.with_indication-2.ensures
    ∙ ap (λ (b : AnswerParts). record b { indications = indicated })
    (c.with_finished-2.ensures ∙ ap (λ (b : AnswerParts). record b { finished = id ∷ [] }) c.said-2.ensures)
    ∙ ap (λ (n : TransactionId). ended_and_sent n c.args.conclusion words.Closed) c.name-id.ensures
    ∙ ap (λ (k : Conclusion). ended_and_sent (session_id s) k words.Closed) conclusion in
    let same =
    ap (λ (X : StateMachineFields). record X { last_finished = c.of.result }) (c.self-2.view_is ∙ c.close-2.ensures s c.session-session.ensures)
    ∙ ap (λ (b : Bool). closed_with M (record s { has_changed = b }) c.of.result) changed
    ∙ ap (closed_with M (settled s outcome)) (c.of.ensures ∙ octets) in
    let distinct = subst (λ (X : StateMachineFields). AreDistinct X.state.sessions) c.self.view_is c.distinct.ensures in
    let N : StateMachineFields = record {
      state = record {
        world = c.self-2.inside.entity;
        mib = c.self-2.inside.mib;
        now = c.self-2.inside.latest;
        seen = c.self-2.inside.seen;
        sessions = c.self-2.inside.sessions;
        closed = c.self-2.inside.closed;
      };
      last_finished = c.of.result;
      turns = c.self-2.inside.turns;
    } in
    let done = concludes_closed M a s outcome distinct field (sym sent ∙ c.if-not-is_sent.false) acked said in
    subst (λ (x : SessionFields). Concludes M N a x outcome) (same_Some s session (sym c.session-session.ensures ∙ at))
    (subst (λ (X : StateMachineFields). Concludes M X a s outcome) (sym same) done)
