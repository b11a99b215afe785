-- Where a transaction is found after one entry of the table is replaced, added or taken out.
use Rattle.std.proofs.Common.{◌≡◌, ◌≢◌, ℕ, zero, suc, List, [], ◌∷◌, ◌++◌, refl}
use Rattle.std.specs.Prelude.{Some, None, slice_get, slice_set, remove, Bool, true, false, if◌then◌else◌}
use Rattle.std.proofs.lemmas.Bool.{cases_Bool}
use mathlib.Core.Logic.{inl, inr}
use Rattle.cfdp_status.specs.declared.transaction.TransactionId.{TransactionId}
use Rattle.cfdp_leases.specs.Leases.{is_same}
use Rattle.cfdp_transactions.specs.Entry.{Entry, name_of}
use Rattle.cfdp_transactions.specs.World.{index_in}
use Rattle.cfdp_transactions.proofs.Finding.{is_same-true, is_same-same}

pub differs : (a b : TransactionId) → a ≢ b → is_same a b ≡ false
differs a b ne = elim (cases_Bool (is_same a b)) [ inl same ↦ absurd (ne (is_same-true a b same)) | inr other ↦ other ]

-- the entry in front is the one looked for, or the search goes on after it
either : (d : Entry) (t u : List Entry) (i j : ℕ) (same : Bool) → slice_get u i ≡ slice_get t j → slice_get (d ∷ u) (if same then 0 else suc i)
    ≡ slice_get (d ∷ t) (if same then 0 else suc j)
either d t u i j true h = refl
either d t u i j false h = h

-- another name -----------------------------------------------------------------------

pub set_other : (t : List Entry) (k : ℕ) (new : Entry) (id : TransactionId) → name_of new ≢ id → ((e : Entry) → slice_get t k ≡ Some e → name_of e ≢ id) →
    slice_get (slice_set t k new) (index_in id (slice_set t k new)) ≡ slice_get t (index_in id t)
set_other [] k new id ne old = refl
set_other (d ∷ t) zero new id ne old = rw (differs (name_of new) id ne, differs (name_of d) id (old d refl)) refl
set_other (d ∷ t) (suc k) new id ne old =
    either d t (slice_set t k new) (index_in id (slice_set t k new)) (index_in id t) (is_same (name_of d) id) (set_other t k new id ne old)

pub append_other : (t : List Entry) (new : Entry) (id : TransactionId) → name_of new ≢ id → slice_get (t ++ new ∷ []) (index_in id (t ++ new ∷ []))
    ≡ slice_get t (index_in id t)
append_other [] new id ne = rw (differs (name_of new) id ne) refl
append_other (d ∷ t) new id ne = either d t (t ++ new ∷ []) (index_in id (t ++ new ∷ [])) (index_in id t) (is_same (name_of d) id) (append_other t new id ne)

pub remove_other : (t : List Entry) (k : ℕ) (id : TransactionId) → ((e : Entry) → slice_get t k ≡ Some e → name_of e ≢ id) →
    slice_get (remove t k) (index_in id (remove t k)) ≡ slice_get t (index_in id t)
remove_other [] zero id old = refl
remove_other [] (suc k) id old = refl
remove_other (d ∷ t) zero id old = rw (differs (name_of d) id (old d refl)) refl
remove_other (d ∷ t) (suc k) id old = either d t (remove t k) (index_in id (remove t k)) (index_in id t) (is_same (name_of d) id) (remove_other t k id old)

-- its own name -----------------------------------------------------------------------

set_step : (d : Entry) (t : List Entry) (id : TransactionId) (e new : Entry) (same : Bool) → is_same (name_of d) id ≡ same → name_of new ≡ id →
    (slice_get t (index_in id t) ≡ Some e → slice_get (slice_set t (index_in id t) new) (index_in id (slice_set t (index_in id t) new)) ≡ Some new) →
    slice_get (d ∷ t) (if same then 0 else suc (index_in id t)) ≡ Some e →
    slice_get (slice_set (d ∷ t) (if same then 0 else suc (index_in id t)) new) (index_in id (slice_set (d ∷ t) (if same then 0 else suc (index_in id t)) new))
    ≡ Some new
set_step d t id e new true is name later h = rw (is_same-same (name_of new) id name) refl
set_step d t id e new false is name later h = rw is (later h)

pub set_own : (t : List Entry) (id : TransactionId) (e new : Entry) → name_of new ≡ id → slice_get t (index_in id t) ≡ Some e →
    slice_get (slice_set t (index_in id t) new) (index_in id (slice_set t (index_in id t) new)) ≡ Some new
set_own [] id e new name h = absurd cc
set_own (d ∷ t) id e new name h = set_step d t id e new (is_same (name_of d) id) refl name (set_own t id e new name) h

append_step : (d : Entry) (t : List Entry) (id : TransactionId) (new : Entry) (same : Bool) →
    (slice_get t (index_in id t) ≡ None → slice_get (t ++ new ∷ []) (index_in id (t ++ new ∷ [])) ≡ Some new) →
    slice_get (d ∷ t) (if same then 0 else suc (index_in id t)) ≡ None →
    slice_get (d ∷ (t ++ new ∷ [])) (if same then 0 else suc (index_in id (t ++ new ∷ []))) ≡ Some new
append_step d t id new true later h = absurd cc
append_step d t id new false later h = later h

pub append_own : (t : List Entry) (id : TransactionId) (new : Entry) → name_of new ≡ id → slice_get t (index_in id t) ≡ None →
    slice_get (t ++ new ∷ []) (index_in id (t ++ new ∷ [])) ≡ Some new
append_own [] id new name h = rw (is_same-same (name_of new) id name) refl
append_own (d ∷ t) id new name h = append_step d t id new (is_same (name_of d) id) (append_own t id new name) h
