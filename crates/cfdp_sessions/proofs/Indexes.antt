-- Where a session is.
use Rattle.std.proofs.Common.{◌≡◌, inl, inr, ℕ, zero, suc, ◌<◌, ◌≤◌, Bool, true, false, if◌then◌else◌, List, [], ◌∷◌, length, get_or, Option, Some, None, refl, sym, ap, ◌∙◌, arith}
use Rattle.std.specs.Prelude.{slice_get, slice_set, remove}
use Rattle.std.proofs.lemmas.Bool.{cond-true, cond-false, cases_Bool}
use Rattle.std.proofs.lemmas.Option.{none-some, same_Some}
use Rattle.cfdp_status.specs.declared.transaction.TransactionId.{TransactionId}
use Rattle.cfdp_leases.specs.Leases.{is_same}
use Rattle.cfdp_sessions.specs.Sessions.{SessionFields, session_id, found, replaced, without_session, AreDistinct}
use Rattle.cfdp_sessions.specs.code.Sessions.{IsFound, session_index}
use Rattle.cfdp_sessions.proofs.Names.{found_first, found_either}
use Rattle.cfdp_leases.proofs.Held.{same_itself}
use Rattle.cfdp_leases.proofs.Admitted.{same_is}

-- by whether the first one has the name
found_if : (b : Bool) (s : SessionFields) (ss : List SessionFields) (index : ℕ) (rest : Option SessionFields) → rest ≡ slice_get ss index →
    (if b then Some s else rest) ≡ slice_get (s ∷ ss) (if b then 0 else suc index)
found_if true s ss index rest e = refl
found_if false s ss index rest e = e

pub found_at : (ss : List SessionFields) (id : TransactionId) → found ss id ≡ slice_get ss (session_index ss id)
found_at [] id = refl
found_at (s ∷ ss) id = found_if (is_same (session_id s) id) s ss (session_index ss id) (found ss id) (found_at ss id)

put_if : (b : Bool) (s new : SessionFields) (ss rest : List SessionFields) (index : ℕ) → (if b then 0 else suc index) < suc (length ss) →
    (index < length ss → slice_set ss index new ≡ rest) →
    slice_set (s ∷ ss) (if b then 0 else suc index) new ≡ (if b then new ∷ ss else s ∷ rest)
put_if true s new ss rest index h e = refl
put_if false s new ss rest index h e = ap (λ (xs : List SessionFields). s ∷ xs) (e (omega (arith, h)))

pub replaced_at : (ss : List SessionFields) (new : SessionFields) → session_index ss (session_id new) < length ss → slice_set ss
    (session_index ss (session_id new)) new
    ≡ replaced ss new
replaced_at [] new h = absurd (omega arith)
replaced_at (s ∷ ss) new h = put_if (is_same (session_id s) (session_id new)) s new ss (replaced ss new) (session_index ss (session_id new)) h
    (replaced_at ss new)

past_if : (b : Bool) (s : SessionFields) (first ss rest : List SessionFields) (index : ℕ) → suc (length ss) ≤ (if b then 0 else suc index) →
    (length ss ≤ index → ss ≡ rest) →
    s ∷ ss ≡ (if b then first else s ∷ rest)
past_if true s first ss rest index h e = absurd (omega (arith, h))
past_if false s first ss rest index h e = ap (λ (xs : List SessionFields). s ∷ xs) (e (omega (arith, h)))

pub replaced_past : (ss : List SessionFields) (new : SessionFields) → length ss ≤ session_index ss (session_id new) → ss ≡ replaced ss new
replaced_past [] new h = refl
replaced_past (s ∷ ss) new h = past_if (is_same (session_id s) (session_id new)) s (new ∷ ss) ss (replaced ss new) (session_index ss (session_id new)) h
    (replaced_past ss new)

pub without_past : (ss : List SessionFields) (id : TransactionId) → length ss ≤ session_index ss id → ss ≡ without_session ss id
without_past [] id h = refl
without_past (s ∷ ss) id h = past_if (is_same (session_id s) id) s ss ss (without_session ss id) (session_index ss id) h (without_past ss id)

cut_if : (b : Bool) (s : SessionFields) (ss rest : List SessionFields) (index : ℕ) → (if b then 0 else suc index) < suc (length ss) →
    (index < length ss → remove ss index ≡ rest) →
    remove (s ∷ ss) (if b then 0 else suc index) ≡ (if b then ss else s ∷ rest)
cut_if true s ss rest index h e = refl
cut_if false s ss rest index h e = ap (λ (xs : List SessionFields). s ∷ xs) (e (omega (arith, h)))

pub without_at : (ss : List SessionFields) (id : TransactionId) → session_index ss id < length ss → remove ss (session_index ss id) ≡ without_session ss id
without_at [] id h = absurd (omega arith)
without_at (s ∷ ss) id h = cut_if (is_same (session_id s) id) s ss (without_session ss id) (session_index ss id) h (without_at ss id)

some_if : (b : Bool) (s d : SessionFields) (ss : List SessionFields) (index : ℕ) (rest : Option SessionFields) →
    (if b then 0 else suc index) < suc (length ss) →
    (index < length ss → rest ≡ Some (get_or ss index d)) → (if b then Some s else rest) ≡ Some (get_or (s ∷ ss) (if b then 0 else suc index) d)
some_if true s d ss index rest h e = refl
some_if false s d ss index rest h e = e (omega (arith, h))

pub found_some : (ss : List SessionFields) (id : TransactionId) (d : SessionFields) → session_index ss id < length ss → found ss id
    ≡ Some (get_or ss (session_index ss id) d)
found_some [] id d h = absurd (omega arith)
found_some (s ∷ ss) id d h = some_if (is_same (session_id s) id) s d ss (session_index ss id) (found ss id) h (found_some ss id d)

none_if : (b : Bool) (s : SessionFields) (ss : List SessionFields) (index : ℕ) (rest : Option SessionFields) → suc (length ss) ≤ (if b then 0 else suc index) →
    (length ss ≤ index → rest ≡ None) → (if b then Some s else rest) ≡ None
none_if true s ss index rest h e = absurd (omega (arith, h))
none_if false s ss index rest h e = e (omega (arith, h))

pub found_none : (ss : List SessionFields) (id : TransactionId) → length ss ≤ session_index ss id → found ss id ≡ None
found_none [] id h = refl
found_none (s ∷ ss) id h = none_if (is_same (session_id s) id) s ss (session_index ss id) (found ss id) h (found_none ss id)

-- ---- by index, where the names are distinct

-- a session at an index is found by its name
pub found_by_name : (ss : List SessionFields) (i : ℕ) (s : SessionFields) → slice_get ss i ≡ Some s → IsFound ss (session_id s)
found_by_name [] i s e = absurd cc
found_by_name (x ∷ xs) zero s e =
    found_first x xs (session_id s) (ap (λ (t : SessionFields). is_same (session_id t) (session_id s)) (same_Some x s e) ∙ same_itself (session_id s))
found_by_name (x ∷ xs) (suc i) s e = found_either x xs (session_id s) (found_by_name xs i s e)

-- and one of the same name that is set there replaces it
pub set_replaced : (ss : List SessionFields) (i : ℕ) (s new : SessionFields) → AreDistinct ss → slice_get ss i ≡ Some s → session_id s ≡ session_id new →
    slice_set ss i new ≡ replaced ss new
set_replaced [] i s new d e same = absurd cc
set_replaced (x ∷ xs) zero s new d e same =
    let here : is_same (session_id x) (session_id new) ≡ true =
    ap (λ (n : TransactionId). is_same n (session_id new)) (ap session_id (same_Some x s e) ∙ same) ∙ same_itself (session_id new) in
    sym (cond-true (is_same (session_id x) (session_id new)) (new ∷ xs) (x ∷ replaced xs new) here)
set_replaced (x ∷ xs) (suc i) s new d e same = elim (cases_Bool (is_same (session_id x) (session_id new))) [
  | inl here ↦
      let later = found_by_name xs i s e in
      absurd (none-some later.0 (sym d.0 ∙ ap (found xs) (same_is (session_id x) (session_id new) here ∙ sym same) ∙ later.1))
  | inr there ↦
      ap (λ (ys : List SessionFields). x ∷ ys) (set_replaced xs i s new d.1 e same)
      ∙ sym (cond-false (is_same (session_id x) (session_id new)) (new ∷ xs) (x ∷ replaced xs new) there)
]

-- a session at an index is at the index of its name
pub index_here : (ss : List SessionFields) (i : ℕ) (s : SessionFields) (id : TransactionId) → AreDistinct ss → slice_get ss i ≡ Some s → session_id s ≡ id →
    session_index ss id ≡ i
index_here [] i s id d e same = absurd cc
index_here (x ∷ xs) zero s id d e same =
    let here : is_same (session_id x) id ≡ true = ap (λ (n : TransactionId). is_same n id) (ap session_id (same_Some x s e) ∙ same) ∙ same_itself id in
    cond-true (is_same (session_id x) id) 0 (suc (session_index xs id)) here
index_here (x ∷ xs) (suc i) s id d e same = elim (cases_Bool (is_same (session_id x) id)) [
  | inl here ↦
      let later = found_by_name xs i s e in
      absurd (none-some later.0 (sym d.0 ∙ ap (found xs) (same_is (session_id x) id here ∙ sym same) ∙ later.1))
  | inr there ↦ cond-false (is_same (session_id x) id) 0 (suc (session_index xs id)) there ∙ ap suc (index_here xs i s id d.1 e same)
]
