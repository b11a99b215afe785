-- What inputs make, one after the other.
--     more-nothing, more-assoc     nothing more;  three of them
--     LeftToMake                   some inputs are left, from the state R: with what was made they end and make what all of them do
use Rattle.std.proofs.Common.{◌≡◌, refl, sym, ap, ◌∙◌, subst, ◌⊎◌, ℕ, suc, ◌+◌, Bool, true, false, List, [], ◌∷◌, ◌++◌, map, drop, Some, None, slice_get, append_assoc}
use Rattle.std.specs.Prelude.{◌||◌}
use Rattle.std.proofs.Math.Bool.{or-false, or_assoc}
use Rattle.std.proofs.lemmas.List.{append-nil}
use Rattle.cfdp_receiver.specs.declared.mib.Mib.{Mib}
use Rattle.cfdp_receiver.specs.State.{State, Input, Expire}
use Rattle.cfdp_receiver.specs.Sent.{as_sent}
use Rattle.cfdp_receiver.specs.Turning.{turn}
use Rattle.cfdp_receiver.proofs.DueTimers.{drop_next}
use Rattle.cfdp_run.specs.Playing.{after_turn, after_turns, is_nothing, next_settled, passing, settled_after, settling}
use Rattle.cfdp_run.proofs.Follows.{after_both}
use Rattle.cfdp_run.proofs.Loops.{passing_last, passing_next, passing_none, settling_next, settling_none}
use Rattle.cfdp_live.specs.Living.{Out, nothing, with_more, made_of, made, MakesOut}
use Rattle.cfdp_live.specs.code.Living.{with_sent}

abbrev out : List (List ℕ) → List ℕ → Bool → Out
out sent reported ended = record { sent = sent; reported = reported; ended = ended }

pub more-nothing : (a : Out) → with_more a nothing ≡ a
more-nothing a =
    ap (λ (s : List (List ℕ)). out s (a.reported ++ []) (a.ended || false)) (append-nil a.sent)
    ∙ ap (λ (t : List ℕ). out a.sent t (a.ended || false)) (append-nil a.reported)
    ∙ ap (λ (e : Bool). out a.sent a.reported e) (or-false a.ended)

pub more-assoc : (a b c : Out) → with_more (with_more a b) c ≡ with_more a (with_more b c)
more-assoc a b c =
    ap (λ (s : List (List ℕ)). out s ((a.reported ++ b.reported) ++ c.reported) ((a.ended || b.ended) || c.ended)) (append_assoc a.sent b.sent c.sent)
    ∙ ap (λ (t : List ℕ). out (a.sent ++ (b.sent ++ c.sent)) t ((a.ended || b.ended) || c.ended)) (append_assoc a.reported b.reported c.reported)
    ∙ ap (λ (e : Bool). out (a.sent ++ (b.sent ++ c.sent)) (a.reported ++ (b.reported ++ c.reported)) e) (or_assoc a.ended b.ended c.ended)

-- ---- several inputs, and others after them

made_both : (R : State) (is js : List Input) → made R (is ++ js) ≡ with_more (made R is) (made (after_turns R is) js)
made_both R [] js = refl
made_both R (i ∷ is) js =
    ap (λ (o : Out). with_more (made_of R i) o) (made_both (after_turn R i) is js)
    ∙ sym (more-assoc (made_of R i) (made (after_turn R i) is) (made (after_turns (after_turn R i) is) js))

-- ---- some inputs are left

pub record LeftToMake (R : State) (inputs : List Input) (start : State) (all : List Input) (before now : Out) : Type 0 where
  pub ends : after_turns R inputs ≡ after_turns start all
  pub makes : with_more now (made R inputs) ≡ with_more before (made start all)

-- some of them come
left_next : (R : State) (some more : List Input) (start : State) (all : List Input) (before now : Out) (N : State) (later : Out) →
    LeftToMake R (some ++ more) start all before now → MakesOut R some N now later → LeftToMake N more start all before later
left_next R some more start all before now N later h p = record {
  ends = ap (λ (Q : State). after_turns Q more) p.ends ∙ sym (after_both R some more) ∙ h.ends;
  makes =
      ap (λ (o : Out). with_more o (made N more)) p.makes
      ∙ more-assoc now (made R some) (made N more)
      ∙ ap (λ (Q : State). with_more now (with_more (made R some) (made Q more))) p.ends
      ∙ ap (λ (o : Out). with_more now o) (sym (made_both R some more)) ∙ h.makes;
}

-- none is left
left_none : (R start : State) (all : List Input) (before now : Out) → LeftToMake R [] start all before now → MakesOut start all R before now
left_none R start all before now h = record { ends = h.ends; makes = sym (more-nothing now) ∙ h.makes }

-- ---- the loops

pub settles_next : (left more now : ℕ) (R : State) (i : Input) (start : State) (all : List Input) (before made_so : Out) (N : State) (later : Out) →
    left ≡ suc more → next_settled now R ≡ Some i → LeftToMake R (settling left now R) start all before made_so → MakesOut R (i ∷ []) N made_so later →
    LeftToMake N (settling more now N) start all before later
settles_next left more now R i start all before made_so N later one some h p =
    let first : settling left now R ≡ (i ∷ []) ++ settling more now (after_turn R i) = ap (λ (k : ℕ). settling k now R) one
    ∙ settling_next more now R i some in
    let next =
    left_next R (i ∷ []) (settling more now (after_turn R i)) start all before made_so N later
    (subst (λ (is : List Input). LeftToMake R is start all before made_so) first h) p in
    subst (λ (Q : State). LeftToMake N (settling more now Q) start all before later) (sym p.ends) next

pub settles_end : (left now : ℕ) (R start : State) (all : List Input) (before made_so : Out) → (left ≡ 0) ⊎ (next_settled now R ≡ None) →
    LeftToMake R (settling left now R) start all before made_so → MakesOut start all R before made_so
settles_end left now R start all before made_so none h =
    left_none R start all before made_so (subst (λ (is : List Input). LeftToMake R is start all before made_so) (settling_none left now R none) h)

pub passes_next : (left more now : ℕ) (R start : State) (all : List Input) (before made_so : Out) (N : State) (later : Out) →
    left ≡ suc more → is_nothing (turn R (Expire now)).1.became ≡ false → LeftToMake R (passing left now R) start all before made_so →
    MakesOut R (settled_after now R (Expire now)) N made_so later → LeftToMake N (passing more now N) start all before later
passes_next left more now R start all before made_so N later one some h p =
    let inputs = settled_after now R (Expire now) in
    let first : passing left now R ≡ inputs ++ passing more now (after_turns R inputs) = ap (λ (k : ℕ). passing k now R) one ∙ passing_next more now R some in
    let next =
    left_next R inputs (passing more now (after_turns R inputs)) start all before made_so N later
    (subst (λ (is : List Input). LeftToMake R is start all before made_so) first h) p in
    subst (λ (Q : State). LeftToMake N (passing more now Q) start all before later) (sym p.ends) next

pub passes_last : (left more now : ℕ) (R start : State) (all : List Input) (before made_so : Out) (N : State) (later : Out) →
    left ≡ suc more → is_nothing (turn R (Expire now)).1.became ≡ true → LeftToMake R (passing left now R) start all before made_so →
    MakesOut R (Expire now ∷ []) N made_so later → MakesOut start all N before later
passes_last left more now R start all before made_so N later one none h p =
    let first : passing left now R ≡ (Expire now ∷ []) ++ [] = ap (λ (k : ℕ). passing k now R) one ∙ passing_last more now R none in
    left_none N start all before later
    (left_next R (Expire now ∷ []) [] start all before made_so N later (subst (λ (is : List Input). LeftToMake R is start all before made_so) first h) p)

pub passes_end : (left now : ℕ) (R start : State) (all : List Input) (before made_so : Out) → left ≡ 0 →
    LeftToMake R (passing left now R) start all before made_so → MakesOut start all R before made_so
passes_end left now R start all before made_so none h =
    left_none R start all before made_so
    (subst (λ (is : List Input). LeftToMake R is start all before made_so) (ap (λ (k : ℕ). passing k now R) none ∙ passing_none now R) h)

-- ---- the PDUs of an answer

sent-assoc : (o : Out) (a b : List (List ℕ)) → with_sent (with_sent o a) b ≡ with_sent o (a ++ b)
sent-assoc o a b = ap (λ (s : List (List ℕ)). out s o.reported o.ended) (append_assoc o.sent a b)

pub sent_next : (mib : Mib) (pdus : List (List ℕ)) (n : ℕ) (octets : List ℕ) (start now later : Out) → slice_get pdus n ≡ Some octets →
    with_sent now (map (as_sent mib) (drop n pdus)) ≡ start → later ≡ with_sent now (as_sent mib octets ∷ []) →
    with_sent later (map (as_sent mib) (drop (n + 1) pdus)) ≡ start
sent_next mib pdus n octets start now later at left grown =
    ap (λ (o : Out). with_sent o (map (as_sent mib) (drop (n + 1) pdus))) grown
    ∙ sent-assoc now (as_sent mib octets ∷ []) (map (as_sent mib) (drop (n + 1) pdus))
    ∙ ap (λ (rest : List (List ℕ)). with_sent now (map (as_sent mib) rest)) (sym (drop_next pdus n octets at)) ∙ left
