-- A session that is put where it is changes nothing.
use Rattle.std.specs.Prelude.{slice_get, IfSome}
use Rattle.std.proofs.Common.{◌≡◌, ℕ, false, List, Option, Some, None, refl, sym, ap, ◌∙◌}
use Rattle.std.proofs.lemmas.Bool.{cond-false}
use Rattle.cfdp_status.specs.declared.transaction.TransactionId.{TransactionId}
use Rattle.cfdp_retransmission.specs.Timers.{restarted}
use Rattle.cfdp_sessions.specs.Sessions.{SessionFields, session_id, found, replaced, AreDistinct}
use Rattle.cfdp_sessions.proofs.Names.{found_name}
use Rattle.cfdp_sessions.proofs.Indexes.{set_replaced}
use Rattle.cfdp_transactions.specs.World.{World}
use Rattle.cfdp_transactions.proofs.Indexes.{set_get_same}
use Rattle.cfdp_receiver.specs.State.{at_of}
use Rattle.cfdp_receiver.specs.Due.{is_receiving_at}
use Rattle.cfdp_receiver.specs.StateMachine.{StateMachineFields}
use Rattle.cfdp_receiver.specs.code.StateMachine.{AtIndex, machine_heard, with_session}
use Rattle.cfdp_receiver.specs.Turning.{is_news, roused}
use Rattle.cfdp_receiver.proofs.CancelAsked.{with_sessions}

pub kept : (ss : List SessionFields) (i : ℕ) (s : SessionFields) → AreDistinct ss → slice_get ss i ≡ Some s → replaced ss s ≡ ss
kept ss i s distinct at = sym (set_replaced ss i s s distinct at refl) ∙ set_get_same ss i s at

-- what is no news to a session leaves it
pub no_news : (U : World) (M : StateMachineFields) (i : ℕ) (s : SessionFields) → AreDistinct M.state.sessions → slice_get M.state.sessions i ≡ Some s →
    is_news U M.state.world s ≡ false → M ≡ machine_heard U M s
no_news U M i s distinct at quiet =
    sym (
    ap (λ (t : SessionFields). with_sessions M (replaced M.state.sessions t)) (cond-false (is_news U M.state.world s)
    (record s { timer = restarted M.state.now }) s quiet)
    ∙ ap (with_sessions M) (kept M.state.sessions i s distinct at)
    )

-- the session that is found by a name has it
pub named : (ss : List SessionFields) (id : TransactionId) (index : Option ℕ) → IfSome index (λ k. found ss id ≡ slice_get ss k) →
    IfSome index (λ k. AtIndex ss k (λ s. session_id s ≡ id))
named ss id None same = tt
named ss id (Some k) same = λ s at. found_name ss id s (same ∙ at)

-- a session that is not in Receiving is not roused
pub not_roused : (M : StateMachineFields) (i : ℕ) (s : SessionFields) → AreDistinct M.state.sessions → slice_get M.state.sessions i ≡ Some s →
    is_receiving_at (at_of M.state.world s) ≡ false → M ≡ with_session M (roused M.state s)
not_roused M i s distinct at quiet =
    sym (
    ap (with_session M) (cond-false (is_receiving_at (at_of M.state.world s)) (record s { timer = restarted M.state.now }) s quiet)
    ∙ ap (with_sessions M) (kept M.state.sessions i s distinct at)
    )
