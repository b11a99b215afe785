-- Items that are counted first and copied after.
use Rattle.std.proofs.Common.{◌≡◌, ℕ, ◌+◌, ◌<◌, List, [], ◌∷◌, ◌++◌, length, Result, Ok, Err, refl, sym, ap, ◌∙◌, append_assoc, arith}
use Rattle.std.proofs.lemmas.List.{length-append, append-nil}
use Rattle.std.specs.Prelude.{IsOk}
use Rattle.cfdp_tlv.specs.Reading.{◌>>=◌}
use Rattle.cfdp_pdus.specs.declared.fault.PduFault.{PduFault}
use Rattle.cfdp_pdus.specs.code.Counting.{count_read}

-- this many before, and those that are still read
abbrev pub counted : {A : Type 0} → ℕ → Result (List A) PduFault → Result ℕ PduFault
counted n read = read >>= λ items. Ok (n + length items)

pub count_first : {A : Type 0} (read : Result (List A) PduFault) → counted 0 read ≡ count_read read
count_first (Ok items) = ap (λ (n : ℕ). Ok n) (omega arith)
count_first (Err fault) = refl

pub count_none : {A : Type 0} (n : ℕ) (read : Result (List A) PduFault) → read ≡ Ok [] → counted n read ≡ Ok n
count_none n read none = ap (counted n) none ∙ ap (λ (k : ℕ). Ok k) (omega arith)

count_one : {A : Type 0} (n : ℕ) (x : A) (read : Result (List A) PduFault) → counted n (read >>= λ items. Ok (x ∷ items)) ≡ counted (n + 1) read
count_one n x (Ok items) = ap (λ (k : ℕ). Ok k) (omega arith)
count_one n x (Err fault) = refl

-- one step further
pub count_next : {A : Type 0} (n : ℕ) (x : A) (read after : Result (List A) PduFault) (total : Result ℕ PduFault) → read ≡ (after >>= λ items. Ok (x ∷ items)) →
    counted n read ≡ total → counted (n + 1) after ≡ total
count_next n x read after total step so_far = sym (count_one n x after) ∙ sym (ap (counted n) step) ∙ so_far

-- these before, and those that are still read
abbrev pub joined : {A : Type 0} → List A → Result (List A) PduFault → Result (List A) PduFault
joined front read = read >>= λ items. Ok (front ++ items)

pub join_none : {A : Type 0} (front : List A) (read : Result (List A) PduFault) → read ≡ Ok [] → joined front read ≡ Ok front
join_none front read none = ap (joined front) none ∙ ap Ok (append-nil front)

join_one : {A : Type 0} (front : List A) (x : A) (read : Result (List A) PduFault) → joined front (read >>= λ items. Ok (x ∷ items))
    ≡ joined (front ++ x ∷ []) read
join_one front x (Ok items) = ap Ok (sym (append_assoc front (x ∷ []) items))
join_one front x (Err fault) = refl

pub join_next : {A : Type 0} (front : List A) (x : A) (read after total : Result (List A) PduFault) → read ≡ (after >>= λ items. Ok (x ∷ items)) →
    joined front read ≡ total → joined (front ++ x ∷ []) after ≡ total
join_next front x read after total step so_far = sym (join_one front x after) ∙ sym (ap (joined front) step) ∙ so_far

-- where all were counted, the rest is read, and an item of it is one more than those before
pub rest_is_ok : {A : Type 0} (count : ℕ) (front : List A) (read total : Result (List A) PduFault) → joined front read ≡ total → count_read total ≡ Ok count →
    IsOk read
rest_is_ok count front (Ok items) total so_far all = refl
rest_is_ok count front (Err fault) (Ok items) so_far all = absurd cc
rest_is_ok count front (Err fault) (Err other) so_far all = absurd cc

pub has_room : {A : Type 0} (count : ℕ) (front : List A) (x : A) (read total : Result (List A) PduFault) → joined (front ++ x ∷ []) read ≡ total →
    count_read total ≡ Ok count → length front < count
has_room count front x (Ok items) (Ok all) so_far counted_all =
    let whole : all ≡ (front ++ x ∷ []) ++ items = cc in
    let number : length all ≡ count = cc in
    omega (arith, ap length whole, number, length-append (front ++ x ∷ []) items, length-append front (x ∷ []))
has_room count front x (Ok items) (Err fault) so_far counted_all = absurd cc
has_room count front x (Err fault) (Ok all) so_far counted_all = absurd cc
has_room count front x (Err fault) (Err other) so_far counted_all = absurd cc
