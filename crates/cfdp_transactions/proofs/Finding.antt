-- Where a transaction is in the table.
use Rattle.std.proofs.Common.{◌≡◌, ◌≢◌, ℕ, zero, suc, List, [], ◌∷◌, refl, ap, ◌∙◌}
use Rattle.std.specs.Prelude.{Some, None, slice_get, Bool, true, false, IsTrue, if◌then◌else◌}
use Rattle.std.proofs.lemmas.Bool.{eqb-true, eq-eqb, and_parts, and_from, both_ways}
use Rattle.cfdp_status.specs.declared.transaction.TransactionId.{TransactionId}
use Rattle.cfdp_leases.specs.Leases.{is_same}
use Rattle.cfdp_transactions.specs.Entry.{Entry, name_of}
use Rattle.cfdp_transactions.specs.Sound.{Each}
use Rattle.cfdp_transactions.specs.World.{index_in}

abbrev id_with : ℕ → ℕ → TransactionId
id_with source number = record { source = source; number = number }

id_with-same : (a b m n : ℕ) → a ≡ b → m ≡ n → id_with a m ≡ id_with b n
id_with-same a b m n p q = cc

pub is_same-true : (a b : TransactionId) → IsTrue (is_same a b) → a ≡ b
is_same-true a b h =
    let p = and_parts _ _ h in
    let source : a.source ≡ b.source = eqb-true a.source b.source p.0 in
    let number : a.number ≡ b.number = eqb-true a.number b.number p.1 in
    id_with-same a.source b.source a.number b.number source number

pub is_same-same : (a b : TransactionId) → a ≡ b → IsTrue (is_same a b)
is_same-same a b e = rw e (and_from _ _ (eq-eqb b.source b.source refl) (eq-eqb b.number b.number refl))

-- the entry found has the name
found_or_later : (d : Entry) (t : List Entry) (id : TransactionId) (e : Entry) (same : Bool) → is_same (name_of d) id ≡ same →
    (slice_get t (index_in id t) ≡ Some e → name_of e ≡ id) → slice_get (d ∷ t) (if same then 0 else suc (index_in id t)) ≡ Some e → name_of e ≡ id
found_or_later d t id e true same later h = let q : d ≡ e = cc in rw (← q) (is_same-true (name_of d) id same)
found_or_later d t id e false same later h = later h

pub found_name : (t : List Entry) (id : TransactionId) (e : Entry) → slice_get t (index_in id t) ≡ Some e → name_of e ≡ id
found_name [] id e h = absurd cc
found_name (d ∷ t) id e h = found_or_later d t id e (is_same (name_of d) id) refl (found_name t id e) h

absent_or_later : (d : Entry) (t : List Entry) (id : TransactionId) (same : Bool) → is_same (name_of d) id ≡ same →
    (slice_get t (index_in id t) ≡ None → Each (λ e. name_of e ≢ id) t) → slice_get (d ∷ t) (if same then 0 else suc (index_in id t)) ≡ None →
    Each (λ e. name_of e ≢ id) (d ∷ t)
absent_or_later d t id true same later h k e at q = absurd cc
absent_or_later d t id false same later h zero e at q = let p : d ≡ e = cc in
    both_ways (is_same (name_of d) id) same (is_same-same (name_of d) id (ap name_of p ∙ q))
absent_or_later d t id false same later h (suc k) e at q = later h k e at q

-- none has it, where none is found
pub absent_name : (t : List Entry) (id : TransactionId) → slice_get t (index_in id t) ≡ None → Each (λ e. name_of e ≢ id) t
absent_name [] id h = λ k e at. absurd cc
absent_name (d ∷ t) id h = absent_or_later d t id (is_same (name_of d) id) refl (absent_name t id) h
