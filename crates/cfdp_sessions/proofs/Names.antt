-- Sessions by their names.
use Rattle.std.proofs.Common.{◌≡◌, ◌⊎◌, inl, inr, true, false, if◌then◌else◌, List, [], ◌∷◌, ◌++◌, Option, Some, None, refl, sym, ap, subst, ◌∙◌}
use Rattle.std.proofs.lemmas.Bool.{cond-true, cond-false, cases_Bool, both_ways}
use Rattle.std.proofs.lemmas.Option.{none-some}
use Rattle.cfdp_status.specs.declared.transaction.TransactionId.{TransactionId}
use Rattle.cfdp_leases.specs.Leases.{is_same}
use Rattle.cfdp_sessions.specs.Sessions.{SessionFields, session_id, found, replaced, without_session, AreDistinct}
use Rattle.cfdp_sessions.specs.code.Sessions.{IsFound}
use Rattle.cfdp_leases.proofs.Held.{same_itself}
use Rattle.cfdp_leases.proofs.Admitted.{same_is}
use Rattle.cfdp_transactions.proofs.Options.{chosen_some, passed_over}

-- two names differ either way round
turned_about : (a b : TransactionId) → is_same a b ≡ false → is_same b a ≡ false
turned_about a b h = elim (cases_Bool (is_same b a)) [
  | inl same ↦ absurd (both_ways (is_same a b) h (ap (λ (n : TransactionId). is_same n b) (sym (same_is b a same)) ∙ same_itself b))
  | inr other ↦ other
]

-- ---- a session that is found

pub found_first : (x : SessionFields) (xs : List SessionFields) (id : TransactionId) → is_same (session_id x) id ≡ true → IsFound (x ∷ xs) id
found_first x xs id h = (x, cond-true (is_same (session_id x) id) (Some x) (found xs id) h)

pub found_later : (x : SessionFields) (xs : List SessionFields) (id : TransactionId) → is_same (session_id x) id ≡ false → IsFound xs id → IsFound (x ∷ xs) id
found_later x xs id h f = (f.0, cond-false (is_same (session_id x) id) (Some x) (found xs id) h ∙ f.1)

pub found_either : (x : SessionFields) (xs : List SessionFields) (id : TransactionId) → IsFound xs id → IsFound (x ∷ xs) id
found_either x xs id f = elim (cases_Bool (is_same (session_id x) id)) [ inl h ↦ found_first x xs id h | inr h ↦ found_later x xs id h f ]

pub found_put : (ss : List SessionFields) (new s : SessionFields) (id : TransactionId) → found ss id ≡ Some s → session_id new ≡ session_id s →
    IsFound (replaced ss new) id
found_put [] new s id e same = absurd cc
found_put (x ∷ xs) new s id e same =
    let seen = chosen_some (is_same (session_id x) id) x s (found xs id) e in
    elim (cases_Bool (is_same (session_id x) (session_id new))) [
      | inl here ↦
          subst (λ (ys : List SessionFields). IsFound ys id) (sym (cond-true (is_same (session_id x) (session_id new)) (new ∷ xs) (x ∷ replaced xs new) here)) (
          elim seen [
            | inl h ↦ found_first new xs id (ap (λ (n : TransactionId). is_same n id) (same ∙ ap session_id (sym h.1)) ∙ h.0)
            | inr h ↦ found_either new xs id (s, h.1)
          ]
          )
      | inr there ↦
          subst (λ (ys : List SessionFields). IsFound ys id) (sym (cond-false (is_same (session_id x) (session_id new)) (new ∷ xs) (x ∷ replaced xs new) there))
          (
          elim seen [
            | inl h ↦ found_first x (replaced xs new) id h.0
            | inr h ↦ found_later x (replaced xs new) id h.0 (found_put xs new s id h.1 same)
          ]
          )
    ]

pub found_added : (ss : List SessionFields) (new : SessionFields) (id : TransactionId) → is_same (session_id new) id ≡ true → IsFound (ss ++ new ∷ []) id
found_added [] new id h = found_first new [] id h
found_added (x ∷ xs) new id h = found_either x (xs ++ new ∷ []) id (found_added xs new id h)

no_session : (id : TransactionId) → IsFound [] id → ⊥
no_session id f = none-some f.0 f.1

first_or_later : (x : SessionFields) (xs : List SessionFields) (id : TransactionId) → IsFound (x ∷ xs) id → (is_same (session_id x) id ≡ true) ⊎ IsFound xs id
first_or_later x xs id f = elim (chosen_some (is_same (session_id x) id) x f.0 (found xs id) f.1) [
  | inl h ↦ inl h.0
  | inr h ↦ inr (f.0, h.1)
]

-- a session that was found has the name
pub found_name : (ss : List SessionFields) (id : TransactionId) (s : SessionFields) → found ss id ≡ Some s → session_id s ≡ id
found_name [] id s e = absurd cc
found_name (x ∷ xs) id s e = elim (chosen_some (is_same (session_id x) id) x s (found xs id) e) [
  | inl h ↦ ap session_id (sym h.1) ∙ same_is (session_id x) id h.0
  | inr h ↦ found_name xs id s h.1
]

pub found_replaced : (ss : List SessionFields) (new : SessionFields) (id : TransactionId) → IsFound ss id → IsFound (replaced ss new) id
found_replaced [] new id f = absurd (no_session id f)
found_replaced (x ∷ xs) new id f =
    let seen : (is_same (session_id x) id ≡ true) ⊎ IsFound xs id = first_or_later x xs id f in
    elim (cases_Bool (is_same (session_id x) (session_id new))) [
      | inl here ↦
          subst (λ (ys : List SessionFields). IsFound ys id) (sym (cond-true (is_same (session_id x) (session_id new)) (new ∷ xs) (x ∷ replaced xs new) here)) (
          elim seen [
            | inl h ↦ found_first new xs id (ap (λ (n : TransactionId). is_same n id) (sym (same_is (session_id x) (session_id new) here)) ∙ h)
            | inr later ↦ found_either new xs id later
          ]
          )
      | inr there ↦
          subst (λ (ys : List SessionFields). IsFound ys id) (sym (cond-false (is_same (session_id x) (session_id new)) (new ∷ xs) (x ∷ replaced xs new) there))
          (
          elim seen [
            | inl h ↦ found_first x (replaced xs new) id h
            | inr later ↦ found_either x (replaced xs new) id (found_replaced xs new id later)
          ]
          )
    ]

pub found_more : (ss : List SessionFields) (new : SessionFields) (id : TransactionId) → IsFound ss id → IsFound (ss ++ new ∷ []) id
found_more [] new id f = absurd (no_session id f)
found_more (x ∷ xs) new id f = elim (first_or_later x xs id f) [
  | inl h ↦ found_first x (xs ++ new ∷ []) id h
  | inr later ↦ found_either x (xs ++ new ∷ []) id (found_more xs new id later)
]

-- ---- the sessions of other names

pub replaced_other : (ss : List SessionFields) (new : SessionFields) (id : TransactionId) → is_same (session_id new) id ≡ false → found (replaced ss new) id
    ≡ found ss id
replaced_other [] new id h = refl
replaced_other (x ∷ xs) new id h = elim (cases_Bool (is_same (session_id x) (session_id new))) [
  | inl here ↦
      let other : is_same (session_id x) id ≡ false = ap (λ (n : TransactionId). is_same n id) (same_is (session_id x) (session_id new) here) ∙ h in
      ap (λ (ys : List SessionFields). found ys id) (cond-true (is_same (session_id x) (session_id new)) (new ∷ xs) (x ∷ replaced xs new) here)
      ∙ cond-false (is_same (session_id new) id) (Some new) (found xs id) h
      ∙ sym (cond-false (is_same (session_id x) id) (Some x) (found xs id) other)
  | inr there ↦
      ap (λ (ys : List SessionFields). found ys id) (cond-false (is_same (session_id x) (session_id new)) (new ∷ xs) (x ∷ replaced xs new) there)
      ∙ ap (λ (o : Option SessionFields). if is_same (session_id x) id then Some x else o) (replaced_other xs new id h)
]

pub without_other : (ss : List SessionFields) (t id : TransactionId) → is_same t id ≡ false → found (without_session ss t) id ≡ found ss id
without_other [] t id h = refl
without_other (x ∷ xs) t id h = elim (cases_Bool (is_same (session_id x) t)) [
  | inl here ↦
      let other : is_same (session_id x) id ≡ false = ap (λ (n : TransactionId). is_same n id) (same_is (session_id x) t here) ∙ h in
      ap (λ (ys : List SessionFields). found ys id) (cond-true (is_same (session_id x) t) xs (x ∷ without_session xs t) here)
      ∙ sym (cond-false (is_same (session_id x) id) (Some x) (found xs id) other)
  | inr there ↦
      ap (λ (ys : List SessionFields). found ys id) (cond-false (is_same (session_id x) t) xs (x ∷ without_session xs t) there)
      ∙ ap (λ (o : Option SessionFields). if is_same (session_id x) id then Some x else o) (without_other xs t id h)
]

pub added_other : (ss : List SessionFields) (new : SessionFields) (id : TransactionId) → is_same (session_id new) id ≡ false → found (ss ++ new ∷ []) id
    ≡ found ss id
added_other [] new id h = cond-false (is_same (session_id new) id) (Some new) None h
added_other (x ∷ xs) new id h = ap (λ (o : Option SessionFields). if is_same (session_id x) id then Some x else o) (added_other xs new id h)

-- ---- no two of one name

none_of : (x : SessionFields) (xs : List SessionFields) (id : TransactionId) → is_same (session_id x) id ≡ false → found xs id ≡ None → found (x ∷ xs) id ≡ None
none_of x xs id h e = cond-false (is_same (session_id x) id) (Some x) (found xs id) h ∙ e

named : (a b id : TransactionId) → a ≡ b → is_same b id ≡ false → is_same a id ≡ false
named a b id e h = ap (λ (n : TransactionId). is_same n id) e ∙ h

pub replaced_none : (ss : List SessionFields) (new : SessionFields) (id : TransactionId) → found ss id ≡ None → found (replaced ss new) id ≡ None
replaced_none [] new id e = refl
replaced_none (x ∷ xs) new id e =
    let parts = passed_over (is_same (session_id x) id) x (found xs id) e in
    elim (cases_Bool (is_same (session_id x) (session_id new))) [
      | inl here ↦
          ap (λ (ys : List SessionFields). found ys id) (cond-true (is_same (session_id x) (session_id new)) (new ∷ xs) (x ∷ replaced xs new) here)
          ∙ none_of new xs id (named (session_id new) (session_id x) id (sym (same_is (session_id x) (session_id new) here)) parts.0) parts.1
      | inr there ↦
          ap (λ (ys : List SessionFields). found ys id) (cond-false (is_same (session_id x) (session_id new)) (new ∷ xs) (x ∷ replaced xs new) there)
          ∙ none_of x (replaced xs new) id parts.0 (replaced_none xs new id parts.1)
    ]

pub replaced_distinct : (ss : List SessionFields) (new : SessionFields) → AreDistinct ss → AreDistinct (replaced ss new)
replaced_distinct [] new d = tt
replaced_distinct (x ∷ xs) new d = elim (cases_Bool (is_same (session_id x) (session_id new))) [
  | inl here ↦
      subst AreDistinct (sym (cond-true (is_same (session_id x) (session_id new)) (new ∷ xs) (x ∷ replaced xs new) here))
      (ap (found xs) (sym (same_is (session_id x) (session_id new) here)) ∙ d.0, d.1)
  | inr there ↦
      subst AreDistinct (sym (cond-false (is_same (session_id x) (session_id new)) (new ∷ xs) (x ∷ replaced xs new) there))
      (replaced_none xs new (session_id x) d.0, replaced_distinct xs new d.1)
]

pub added_distinct : (ss : List SessionFields) (new : SessionFields) → AreDistinct ss → found ss (session_id new) ≡ None → AreDistinct (ss ++ new ∷ [])
added_distinct [] new d free = (refl, tt)
added_distinct (x ∷ xs) new d free =
    let parts = passed_over (is_same (session_id x) (session_id new)) x (found xs (session_id new)) free in
    (added_other xs new (session_id x) (turned_about (session_id x) (session_id new) parts.0) ∙ d.0, added_distinct xs new d.1 parts.1)

pub without_none : (ss : List SessionFields) (t id : TransactionId) → found ss id ≡ None → found (without_session ss t) id ≡ None
without_none [] t id e = refl
without_none (x ∷ xs) t id e =
    let parts = passed_over (is_same (session_id x) id) x (found xs id) e in
    elim (cases_Bool (is_same (session_id x) t)) [
      | inl here ↦ ap (λ (ys : List SessionFields). found ys id) (cond-true (is_same (session_id x) t) xs (x ∷ without_session xs t) here) ∙ parts.1
      | inr there ↦
          ap (λ (ys : List SessionFields). found ys id) (cond-false (is_same (session_id x) t) xs (x ∷ without_session xs t) there)
          ∙ none_of x (without_session xs t) id parts.0 (without_none xs t id parts.1)
    ]

pub without_distinct : (ss : List SessionFields) (t : TransactionId) → AreDistinct ss → AreDistinct (without_session ss t)
without_distinct [] t d = tt
without_distinct (x ∷ xs) t d = elim (cases_Bool (is_same (session_id x) t)) [
  | inl here ↦ subst AreDistinct (sym (cond-true (is_same (session_id x) t) xs (x ∷ without_session xs t) here)) d.1
  | inr there ↦
      subst AreDistinct (sym (cond-false (is_same (session_id x) t) xs (x ∷ without_session xs t) there))
      (without_none xs t (session_id x) d.0, without_distinct xs t d.1)
]

-- what was closed has no session any more
pub gone : (ss : List SessionFields) (t : TransactionId) → AreDistinct ss → found (without_session ss t) t ≡ None
gone [] t d = refl
gone (x ∷ xs) t d = elim (cases_Bool (is_same (session_id x) t)) [
  | inl here ↦
      ap (λ (ys : List SessionFields). found ys t) (cond-true (is_same (session_id x) t) xs (x ∷ without_session xs t) here)
      ∙ ap (found xs) (sym (same_is (session_id x) t here)) ∙ d.0
  | inr there ↦
      ap (λ (ys : List SessionFields). found ys t) (cond-false (is_same (session_id x) t) xs (x ∷ without_session xs t) there)
      ∙ none_of x (without_session xs t) t there (gone xs t d.1)
]

-- ---- members

abbrev pub IsMember : SessionFields → List SessionFields → Type 0
IsMember t [] = ⊥
IsMember t (s ∷ ss) = (s ≡ t) ⊎ IsMember t ss

-- of sessions with names of their own, a member is found by its name
pub member_found : (ss : List SessionFields) (t : SessionFields) → AreDistinct ss → IsMember t ss → found ss (session_id t) ≡ Some t
member_found [] t d m = elim m [ ]
member_found (x ∷ xs) t d (inl e) = cond-true (is_same (session_id x) (session_id t)) (Some x) (found xs (session_id t))
    (ap (is_same (session_id x)) (ap session_id (sym e))
    ∙ same_itself (session_id x)) ∙ ap Some e
member_found (x ∷ xs) t d (inr m) =
    let later = member_found xs t d.1 m in
    elim (cases_Bool (is_same (session_id x) (session_id t))) [
      | inl same ↦ absurd (none-some t (sym d.0 ∙ ap (found xs) (same_is (session_id x) (session_id t) same) ∙ later))
      | inr other ↦ cond-false (is_same (session_id x) (session_id t)) (Some x) (found xs (session_id t)) other ∙ later
    ]

-- the one that replaced another is found
pub replaced_self : (ss : List SessionFields) (new : SessionFields) (id : TransactionId) → IsFound ss id → session_id new ≡ id → found (replaced ss new) id
    ≡ Some new
replaced_self [] new id f e = absurd (no_session id f)
replaced_self (x ∷ xs) new id f e =
    let new_is : is_same (session_id new) id ≡ true = ap (λ (n : TransactionId). is_same n id) e ∙ same_itself id in
    elim (cases_Bool (is_same (session_id x) (session_id new))) [
      | inl here ↦
          ap (λ (ys : List SessionFields). found ys id) (cond-true (is_same (session_id x) (session_id new)) (new ∷ xs) (x ∷ replaced xs new) here)
          ∙ cond-true (is_same (session_id new) id) (Some new) (found xs id) new_is
      | inr there ↦
          let other : is_same (session_id x) id ≡ false = ap (is_same (session_id x)) (sym e) ∙ there in
          ap (λ (ys : List SessionFields). found ys id) (cond-false (is_same (session_id x) (session_id new)) (new ∷ xs) (x ∷ replaced xs new) there)
          ∙ cond-false (is_same (session_id x) id) (Some x) (found (replaced xs new) id) other
          ∙ elim (first_or_later x xs id f) [
            | inl same ↦ absurd (both_ways (is_same (session_id x) id) other same)
            | inr later ↦ replaced_self xs new id later e
          ]
    ]
