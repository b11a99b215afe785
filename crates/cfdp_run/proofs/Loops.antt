-- The inputs by which all is settled, and those by which time passes, one after the other.
use Rattle.std.proofs.Common.{◌≡◌, ◌⊎◌, inl, inr, ℕ, zero, suc, true, false, List, [], ◌∷◌, ◌++◌, Option, Some, None, refl, sym, ap, subst, ◌∙◌, append_assoc, is_some}
use Rattle.std.proofs.lemmas.List.{append-nil}
use Rattle.cfdp_transactions.specs.World.{next_runnable}
use Rattle.cfdp_receiver.specs.Due.{first_over}
use Rattle.cfdp_receiver.specs.State.{State, Input, Expire, Work, Finish}
use Rattle.cfdp_receiver.specs.Turning.{turn}
use Rattle.cfdp_run.specs.Playing.{Plays, after_turn, after_turns, played, next_settled, settled_by, settling, settled_after, is_nothing, passing}
use Rattle.cfdp_run.proofs.Follows.{after_both, played_both}

-- some inputs are left, from the state R: with what was written they end and write what all of them do
pub record Left (R : State) (inputs : List Input) (start : State) (all : List Input) (before text : List ℕ) : Type 0 where
  pub ends : after_turns R inputs ≡ after_turns start all
  pub writes : text ++ played R inputs ≡ before ++ played start all

-- some of them are played
pub left_next : (R : State) (some more : List Input) (start : State) (all : List Input) (before text : List ℕ) (N : State) (later : List ℕ) →
    Left R (some ++ more) start all before text → Plays R some N text later → Left N more start all before later
left_next R some more start all before text N later h p = record {
  ends = ap (λ (Q : State). after_turns Q more) p.ends ∙ sym (after_both R some more) ∙ h.ends;
  writes =
      ap (λ (t : List ℕ). t ++ played N more) p.writes
      ∙ append_assoc text (played R some) (played N more)
      ∙ ap (λ (Q : State). text ++ (played R some ++ played Q more)) p.ends
      ∙ ap (λ (t : List ℕ). text ++ t) (sym (played_both R some more)) ∙ h.writes;
}

-- none is left
pub left_none : (R start : State) (all : List Input) (before text : List ℕ) → Left R [] start all before text → Plays start all R before text
left_none R start all before text h = record { ends = h.ends; writes = sym (append-nil text) ∙ h.writes }

-- ---- all is settled

pub settling_next : (left now : ℕ) (R : State) (i : Input) → next_settled now R ≡ Some i → settling (suc left) now R ≡ (i ∷ []) ++ settling left now
    (after_turn R i)
unfolding settling
settling_next left now R i e = ap (λ (first : Option Input). settled_by first (λ j. settling left now (after_turn R j))) e

pub settling_none : (left now : ℕ) (R : State) → (left ≡ 0) ⊎ (next_settled now R ≡ None) → settling left now R ≡ []
unfolding settling
settling_none zero now R h = refl
settling_none (suc left) now R (inl e) = cc e
settling_none (suc left) now R (inr e) = ap (λ (first : Option Input). settled_by first (λ j. settling left now (after_turn R j))) e

-- ---- time passes

pub passing_last : (left now : ℕ) (R : State) → is_nothing (turn R (Expire now)).1.became ≡ true → passing (suc left) now R ≡ (Expire now ∷ []) ++ []
unfolding passing
passing_last left now R e = rw e refl

pub passing_next : (left now : ℕ) (R : State) → is_nothing (turn R (Expire now)).1.became ≡ false →
    passing (suc left) now R ≡ settled_after now R (Expire now) ++ passing left now (after_turns R (settled_after now R (Expire now)))
unfolding passing
passing_next left now R e = rw e refl

pub passing_none : (now : ℕ) (R : State) → passing 0 now R ≡ []
unfolding passing
passing_none now R = refl

-- ---- the loops

pub settled_work : (now : ℕ) (R : State) → is_some (next_runnable R.world.table) ≡ true → next_settled now R ≡ Some (Work now)
settled_work now R e = rw e refl

pub settled_finish : (now : ℕ) (R : State) → is_some (next_runnable R.world.table) ≡ false → is_some (first_over R.world R.sessions) ≡ true →
    next_settled now R ≡ Some (Finish now)
settled_finish now R none e = rw (none, e) refl

pub settled_none : (now : ℕ) (R : State) → is_some (next_runnable R.world.table) ≡ false → is_some (first_over R.world R.sessions) ≡ false →
    next_settled now R ≡ None
settled_none now R none e = rw (none, e) refl

pub settles_next : (left more now : ℕ) (R : State) (i : Input) (start : State) (all : List Input) (before text : List ℕ) (N : State) (later : List ℕ) →
    left ≡ suc more → next_settled now R ≡ Some i → Left R (settling left now R) start all before text → Plays R (i ∷ []) N text later →
    Left N (settling more now N) start all before later
settles_next left more now R i start all before text N later one some h p =
    let first : settling left now R ≡ (i ∷ []) ++ settling more now (after_turn R i) = ap (λ (k : ℕ). settling k now R) one
    ∙ settling_next more now R i some in
    let next =
    left_next R (i ∷ []) (settling more now (after_turn R i)) start all before text N later
    (subst (λ (is : List Input). Left R is start all before text) first h) p in
    subst (λ (Q : State). Left N (settling more now Q) start all before later) (sym p.ends) next

pub settles_end : (left now : ℕ) (R start : State) (all : List Input) (before text : List ℕ) → (left ≡ 0) ⊎ (next_settled now R ≡ None) →
    Left R (settling left now R) start all before text → Plays start all R before text
settles_end left now R start all before text none h =
    left_none R start all before text (subst (λ (is : List Input). Left R is start all before text) (settling_none left now R none) h)

pub passes_next : (left more now : ℕ) (R start : State) (all : List Input) (before text : List ℕ) (N : State) (later : List ℕ) →
    left ≡ suc more → is_nothing (turn R (Expire now)).1.became ≡ false → Left R (passing left now R) start all before text →
    Plays R (settled_after now R (Expire now)) N text later → Left N (passing more now N) start all before later
passes_next left more now R start all before text N later one some h p =
    let inputs = settled_after now R (Expire now) in
    let first : passing left now R ≡ inputs ++ passing more now (after_turns R inputs) = ap (λ (k : ℕ). passing k now R) one ∙ passing_next more now R some in
    let next =
    left_next R inputs (passing more now (after_turns R inputs)) start all before text N later
    (subst (λ (is : List Input). Left R is start all before text) first h) p in
    subst (λ (Q : State). Left N (passing more now Q) start all before later) (sym p.ends) next

pub passes_last : (left more now : ℕ) (R start : State) (all : List Input) (before text : List ℕ) (N : State) (later : List ℕ) →
    left ≡ suc more → is_nothing (turn R (Expire now)).1.became ≡ true → Left R (passing left now R) start all before text →
    Plays R (Expire now ∷ []) N text later → Plays start all N before later
passes_last left more now R start all before text N later one none h p =
    let first : passing left now R ≡ (Expire now ∷ []) ++ [] = ap (λ (k : ℕ). passing k now R) one ∙ passing_last more now R none in
    left_none N start all before later
    (left_next R (Expire now ∷ []) [] start all before text N later (subst (λ (is : List Input). Left R is start all before text) first h) p)

pub passes_end : (left now : ℕ) (R start : State) (all : List Input) (before text : List ℕ) → left ≡ 0 →
    Left R (passing left now R) start all before text → Plays start all R before text
passes_end left now R start all before text none h =
    left_none R start all before text
    (subst (λ (is : List Input). Left R is start all before text) (ap (λ (k : ℕ). passing k now R) none ∙ passing_none now R) h)
