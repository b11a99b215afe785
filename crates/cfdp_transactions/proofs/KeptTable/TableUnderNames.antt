-- The program's table, which is kept under names, and its list of entries.
use Rattle.std.proofs.Common.{◌≡◌, ℕ, zero, suc, ◌+◌, ◌≤◌, List, [], ◌∷◌, ◌++◌, length, map, refl, ap, sym, ◌∙◌, arith}
use Rattle.std.specs.Prelude.{Bool, true, false, cond, if◌then◌else◌, Option, Some, None, IfSome, IfNone, ◌&&◌, eqb, slice_get, slice_set, remove, nat_lt, position}
use Rattle.std.proofs.lemmas.Bool.Decides.{nat_tests}
use Rattle.std.specs.List.{position_or_len}
use Rattle.std.proofs.lemmas.List.Recursion.{is_position_or_len}
use Rattle.indexmap.specs.IndexMap.{insert_entry}
use Rattle.indexmap.specs.Layout.{set_value_at}
use Rattle.cfdp_status.specs.declared.transaction.TransactionId.{TransactionId}
use Rattle.cfdp_leases.specs.Leases.{is_same}
use Rattle.cfdp_transactions.specs.code.TableEntries.{TableEntryFields, kept_name, kept_index}
use Rattle.cfdp_transactions.specs.code.TableChanges.{AreNamed}

abbrev pub Named : Type 0
Named = List (TransactionId × TableEntryFields)

abbrev pub table_entries_of : Named → List TableEntryFields
table_entries_of es = map (λ e. e.1) es

-- a value that is replaced by one of the same name -----------------------------------

pub set_named : (es : Named) (k : ℕ) (w : TableEntryFields) → AreNamed es → ((r : TableEntryFields) → slice_get (table_entries_of es) k ≡ Some r → kept_name w
    ≡ kept_name r) →
    AreNamed (set_value_at es k w)
set_named [] k w named same = named
set_named (e ∷ es) zero w named same = (named.0 ∙ sym (same e.1 refl), named.1)
set_named (e ∷ es) (suc k) w named same = (named.0, set_named es k w named.1 same)

pub table_entries-set : (es : Named) (k : ℕ) (w : TableEntryFields) → table_entries_of (set_value_at es k w) ≡ slice_set (table_entries_of es) k w
table_entries-set [] k w = refl
table_entries-set (e ∷ es) zero w = refl
table_entries-set (e ∷ es) (suc k) w = ap (λ (rs : List TableEntryFields). e.1 ∷ rs) (table_entries-set es k w)

pub remove_named : (es : Named) (k : ℕ) → AreNamed es → AreNamed (remove es k)
remove_named [] zero named = named
remove_named [] (suc k) named = named
remove_named (e ∷ es) zero named = named.1
remove_named (e ∷ es) (suc k) named = (named.0, remove_named es k named.1)

pub table_entries-remove : (es : Named) (k : ℕ) → table_entries_of (remove es k) ≡ remove (table_entries_of es) k
table_entries-remove [] zero = refl
table_entries-remove [] (suc k) = refl
table_entries-remove (e ∷ es) zero = refl
table_entries-remove (e ∷ es) (suc k) = ap (λ (rs : List TableEntryFields). e.1 ∷ rs) (table_entries-remove es k)

-- where a name is --------------------------------------------------------------------

key_index : TransactionId → List TransactionId → ℕ
key_index id [] = 0
key_index id (k ∷ ks) = if is_same k id then 0 else suc (key_index id ks)

abbrev names_of : Named → List TransactionId
names_of es = map (λ e. e.0) es

table_entries_as_keys : (id : TransactionId) (es : Named) → AreNamed es → kept_index id (table_entries_of es) ≡ key_index id (names_of es)
unfolding key_index
table_entries_as_keys id [] named = refl
table_entries_as_keys id (e ∷ es) named = rw (named.0, table_entries_as_keys id es named.1) refl

cond_suc : (b : Bool) (n : ℕ) → (if b then 0 else suc n) ≡ cond b 0 (1 + n)
cond_suc true n = refl
cond_suc false n = omega arith

index_same : (id : TransactionId) (test : TransactionId → Bool) → ((k : TransactionId) → test k ≡ is_same k id) → (ks : List TransactionId) → key_index id ks
    ≡ position_or_len test ks
unfolding key_index
index_same id test same ks = is_position_or_len (key_index id) test refl (λ k ks. rw (same k) (cond_suc (is_same k id) (key_index id ks))) ks

length_names : (es : Named) → length (names_of es) ≡ length (table_entries_of es)
length_names [] = refl
length_names (e ∷ es) = ap suc (length_names es)

found_case : (b : Bool) (n m : ℕ) → m ≡ n → IfSome (cond b (Some n) None) (λ index. index ≡ m)
found_case true n m h = sym h
found_case false n m h = tt

pub found_index : (id : TransactionId) (test : TransactionId → Bool) → ((k : TransactionId) → test k ≡ is_same k id) → (es : Named) → AreNamed es →
    (result : Option ℕ) →
    result ≡ position test (names_of es) → IfSome result (λ index. index ≡ kept_index id (table_entries_of es))
found_index id test same es named result is =
    rw is (found_case (nat_lt (position_or_len test (names_of es)) (length (names_of es))) (position_or_len test (names_of es))
    (kept_index id (table_entries_of es))
    (table_entries_as_keys id es named ∙ index_same id test same (names_of es)))

index_step : (b : Bool) (n len : ℕ) → n ≤ len → (if b then 0 else suc n) ≤ suc len
index_step true n len h = omega arith
index_step false n len h = omega arith

index_le : (id : TransactionId) (ks : List TransactionId) → key_index id ks ≤ length ks
unfolding key_index
index_le id [] = omega arith
index_le id (k ∷ ks) = index_step (is_same k id) (key_index id ks) (length ks) (index_le id ks)

absent_case : (b : Bool) (n m len : ℕ) → m ≡ n → n ≤ len → nat_lt n len ≡ b → IfNone (cond b (Some n) None) (m ≡ len)
absent_case true n m len h le is = tt
absent_case false n m len h le is = grind (arith, nat_tests)

pub absent_index : (id : TransactionId) (test : TransactionId → Bool) → ((k : TransactionId) → test k ≡ is_same k id) → (es : Named) → AreNamed es →
    (result : Option ℕ) →
    result ≡ position test (names_of es) → IfNone result (kept_index id (table_entries_of es) ≡ length (table_entries_of es))
absent_index id test same es named result is =
    rw (is, ← length_names es)
    (absent_case (nat_lt (position_or_len test (names_of es)) (length (names_of es))) (position_or_len test (names_of es)) (kept_index id (table_entries_of es))
    (length (names_of es))
    (table_entries_as_keys id es named ∙ index_same id test same (names_of es)) (rw (← index_same id test same (names_of es)) (index_le id (names_of es))) refl)

either_way : (a b : ℕ) → eqb a b ≡ eqb b a
either_way a b = grind (arith, nat_tests)

-- the derived comparison, and that of the definitions
pub same_either_way : (id k : TransactionId) → (eqb id.source k.source && eqb id.number k.number) ≡ is_same k id
same_either_way id k = rw (either_way id.source k.source, either_way id.number k.number) refl

-- one more of a name that is not there ------------------------------------------------

push_step : (e : TransactionId × TableEntryFields) (es : Named) (id : TransactionId) (new : TableEntryFields) (b : Bool) → is_same (kept_name e.1) id ≡ b →
    (kept_index id (table_entries_of es) ≡ length (table_entries_of es) → insert_entry (λ a k. is_same k a) es id new ≡ es ++ (id, new) ∷ [])
    → e.0 ≡ kept_name e.1 →
    (if b then 0 else suc (kept_index id (table_entries_of es))) ≡ suc (length (table_entries_of es))
    → insert_entry (λ a k. is_same k a) (e ∷ es) id new ≡ e ∷ es
    ++ (id, new) ∷ []
push_step e es id new true is later named h = absurd (omega arith)
push_step e es id new false is later named h =
    let here : is_same e.0 id ≡ false = ap (λ k. is_same k id) named ∙ is in
    rw here (ap (λ (xs : Named). e ∷ xs) (later (omega (arith, h))))

pushed : (es : Named) (id : TransactionId) (new : TableEntryFields) → AreNamed es → kept_index id (table_entries_of es) ≡ length (table_entries_of es) →
    insert_entry (λ a k. is_same k a) es id new ≡ es ++ (id, new) ∷ []
pushed [] id new named h = refl
pushed (e ∷ es) id new named h = push_step e es id new (is_same (kept_name e.1) id) refl (pushed es id new named.1) named.0 h

same_inserted : (eq : TransactionId → TransactionId → Bool) → ((a k : TransactionId) → eq a k ≡ is_same k a) → (es : Named) (id : TransactionId)
    (new : TableEntryFields) →
    insert_entry eq es id new ≡ insert_entry (λ a k. is_same k a) es id new
same_inserted eq same [] id new = refl
same_inserted eq same (e ∷ es) id new = rw (same id e.0, same_inserted eq same es id new) refl

pub push_entry : (eq : TransactionId → TransactionId → Bool) → ((a k : TransactionId) → eq a k ≡ is_same k a) → (es : Named) (id : TransactionId)
    (new : TableEntryFields) →
    AreNamed es →
    kept_index id (table_entries_of es) ≡ length (table_entries_of es) → insert_entry eq es id new ≡ es ++ (id, new) ∷ []
push_entry eq same es id new named h = same_inserted eq same es id new ∙ pushed es id new named h

pub push_named : (es : Named) (id : TransactionId) (new : TableEntryFields) → AreNamed es → id ≡ kept_name new → AreNamed (es ++ (id, new) ∷ [])
push_named [] id new named e = (e, tt)
push_named (x ∷ es) id new named e = (named.0, push_named es id new named.1 e)

pub table_entries-push : (es : Named) (id : TransactionId) (new : TableEntryFields) → table_entries_of (es ++ (id, new) ∷ []) ≡ table_entries_of es ++ new ∷ []
table_entries-push [] id new = refl
table_entries-push (e ∷ es) id new = ap (λ (rs : List TableEntryFields). e.1 ∷ rs) (table_entries-push es id new)
