-- Octets that come: one gap more is filled, and what is kept once all are.
use Rattle.std.proofs.Common.{◌≡◌, ℕ, ◌+◌, ◌-◌, max, ◌≤◌, ◌<◌, List, [], ◌∷◌, length, drop, get_or, refl, ap, sym, ◌∙◌, arith, length-drop, length-append, get_or-set_same}
use Rattle.std.proofs.lemmas.List.{length-replicate, get_or-map}
use Rattle.std.specs.Prelude.{◌⊎◌, IsTrue, IsFalse, replicate, if◌then◌else◌, Option, Some, None, unwrap_or}
use Rattle.std.specs.List.{slice_range}
use Rattle.std.proofs.lemmas.Bool.{cases_lt, both_ways, or_parts}
use Rattle.std.proofs.lemmas.List.{set-set, get_or-take, get_or-drop, length-take-le, get_or_append_left, get_or-append-add, get_or-replicate}
use mathlib.Core.Logic.{inl, inr}
use Rattle.cfdp_actions.specs.Filestore.{staged_in, Stages}
use Rattle.cfdp_actions.specs.Store.{Store, with_changes, overwritten, extended}
use Rattle.cfdp_transactions.specs.Received.{staged_of, kept_with}
use Rattle.cfdp_transactions.specs.Pieces.{Ranges, is_in, received_in, with_range}
use Rattle.cfdp_transactions.specs.code.Pieces.{IsNextGap}
use Rattle.cfdp_transactions.specs.PieceLaws.{ArePieces, AreWritten}
use Rattle.cfdp_transactions.specs.code.FileData.{IsPut, PutsOctets, kept}
use Rattle.cfdp_transactions.proofs.Received.PieceRanges.{is_inside, inside_true}
use Rattle.cfdp_transactions.proofs.Received.Writing.{length-received, received_at, range_is_added, ranges_keep, staged_are_kept}
use Rattle.cfdp_transactions.proofs.Received.Overwriting.{overwritten-length, overwritten-before, overwritten-inside, overwritten-following}

-- the store, with other octets in the slot -----------------------------------------------

pub staged_anew : (s : Store) (slot : ℕ) (x : List ℕ) → slot < length s.filestore.staged → staged_in (with_changes s (Stages slot x ∷ [])).filestore slot ≡ x
staged_anew s slot x h = get_or-set_same s.filestore.staged slot x [] h

pub staged_twice : (s : Store) (slot : ℕ) (x y : List ℕ) → with_changes (with_changes s (Stages slot x ∷ [])) (Stages slot y ∷ [])
    ≡ with_changes s (Stages slot y ∷ [])
staged_twice s slot x y = ap (λ (staged : List (List ℕ)). record s { filestore = record s.filestore { staged = staged } }) (set-set s.filestore.staged slot x y)

-- one gap more -------------------------------------------------------------------------------

module _ (ranges : Ranges) (at : ℕ) (octets xs ys : List ℕ) (from start stop : ℕ) (put : IsPut ranges at octets xs ys from) (begun : at ≤ from)
    (gap : IsNextGap ranges from (at + length octets) (start, stop)) (there : at + length octets ≤ length xs) where
  piece : List ℕ
  piece = slice_range octets (start - at) (stop - at)

  piece_long : length (slice_range octets (start - at) (stop - at)) ≡ stop - start
  piece_long =
      length-take-le ((stop - at) - (start - at)) (drop (start - at) octets) (omega (arith, length-drop (start - at) octets, gap.from, gap.some, gap.to))
      ∙ (let e : (stop - at) - (start - at) ≡ stop - start = omega (arith, gap.from, gap.some) in e)

  fits : start + length (slice_range octets (start - at) (stop - at)) ≤ length ys
  fits = omega (arith, piece_long, gap.some, gap.to, put.long)

  abbrev zs : List ℕ
  zs = overwritten ys start (slice_range octets (start - at) (stop - at))

  outside : (i : ℕ) → (i < start) ⊎ (stop ≤ i) → get_or zs i 0 ≡ get_or ys i 0
  outside i (inl h) = overwritten-before ys start (slice_range octets (start - at) (stop - at)) fits i h
  outside i (inr h) = overwritten-following ys start (slice_range octets (start - at) (stop - at)) fits i (omega (arith, piece_long, gap.some))

  not_in_gap : (i : ℕ) → IsTrue (is_in i ranges) → (i < start) ⊎ (stop ≤ i)
  not_in_gap i in_one = elim (cases_lt i start) [
    | inl early ↦ inl early
    | inr late ↦ elim (cases_lt i stop) [
      | inl inside ↦ absurd (both_ways (is_in i ranges) (gap.missing i late inside) in_one)
      | inr past ↦ inr past
    ]
  ]

  inside_gap : (j : ℕ) → start ≤ at + j → at + j < stop → get_or zs (at + j) 0 ≡ get_or octets j 0
  inside_gap j lo hi =
      let k : ℕ = (at + j) - start in
      let index : at + j ≡ start + k = omega arith in
      ap (λ (i : ℕ). get_or zs i 0) index ∙ overwritten-inside ys start (slice_range octets (start - at) (stop - at)) fits k (omega (arith, piece_long))
      ∙ get_or-take ((stop - at) - (start - at)) (drop (start - at) octets) k 0 (omega (arith, gap.from))
      ∙ get_or-drop (start - at) octets k 0 ∙ ap (λ (i : ℕ). get_or octets i 0) (let e : start - at + k ≡ j = omega (arith, gap.from) in e)

  written_more : (j : ℕ) → j < length octets → at + j < stop → IsFalse (is_in (at + j) ranges) → get_or zs (at + j) 0 ≡ get_or octets j 0
  written_more j below hi new = elim (cases_lt (at + j) start) [
    | inr late ↦ inside_gap j late hi
    | inl early ↦ elim (cases_lt (at + j) from) [
      | inl done ↦ outside (at + j) (inl early) ∙ put.written j below done new
      | inr later ↦ absurd (both_ways (is_in (at + j) ranges) new (gap.before (at + j) later early))
    ]
  ]

  pub put_more : IsPut ranges at octets xs (overwritten ys start (slice_range octets (start - at) (stop - at))) stop
  put_more = record {
    long = overwritten-length ys start (slice_range octets (start - at) (stop - at)) fits ∙ put.long;
    kept = λ i below in_one. outside i (not_in_gap i in_one) ∙ put.kept i below in_one;
    before = λ i early below. outside i (inl (omega (arith, gap.from))) ∙ put.before i early below;
    following = λ i late below. outside i (inr late) ∙ put.following i (omega (arith, gap.from, gap.some)) below;
    written = written_more;
  }

pub puts_more : (ranges : Ranges) (at : ℕ) (octets : List ℕ) (slot : ℕ) (s t u : Store) (from stop : ℕ) (zs : List ℕ) → slot < length s.filestore.staged
    → PutsOctets ranges at octets slot s t from → u ≡ with_changes t (Stages slot zs ∷ []) → IsPut ranges at octets (staged_in s.filestore slot) zs stop →
    PutsOctets ranges at octets slot s u stop
puts_more ranges at octets slot s t u from stop zs there puts e put =
    let whole : u ≡ with_changes s (Stages slot zs ∷ []) =
    e ∙ ap (λ (v : Store). with_changes v (Stages slot zs ∷ [])) puts.store ∙ staged_twice s slot (staged_in t.filestore slot) zs in
    let staged : staged_in u.filestore slot ≡ zs = ap (λ (v : Store). staged_in v.filestore slot) whole ∙ staged_anew s slot zs there in
    record { store = rw staged whole; put = rw staged put }

-- all of them --------------------------------------------------------------------------------

zero_at : (ranges : Ranges) (xs : List ℕ) (i : ℕ) → staged_of (received_in ranges xs) ≡ xs → i < length xs → IsFalse (is_in i ranges) → get_or xs i 0 ≡ 0
zero_at ranges xs i e below out =
    let z : 0 + i ≡ i = omega arith in
    ap (λ (ys : List ℕ). get_or ys i 0) (sym e) ∙ get_or-map (λ (r : Option ℕ). unwrap_or r 0) (received_in ranges xs) i None 0
    (omega (arith, length-received 0 ranges xs))
    ∙ ap (λ (r : Option ℕ). unwrap_or r 0) (received_at 0 ranges xs i below
    ∙ (let none : (if is_in (0 + i) ranges then Some (get_or xs i 0) else None) ≡ None = rw (z, out) refl in none))

module _ (ranges : Ranges) (at : ℕ) (octets xs zs : List ℕ) (size : ℕ) (long : size ≡ max (length xs) (at + length octets)) (pieces : ArePieces ranges xs)
    (some : 0 < length octets)
    (zeros : staged_of (received_in ranges xs) ≡ xs) (put : IsPut ranges at octets (extended xs size) zs (at + length octets)) where
  extended_long : length (extended xs size) ≡ size
  extended_long = omega (arith, length-append xs (replicate (size - length xs) 0), length-replicate {A = ℕ} (size - length xs) 0, long)

  written : AreWritten ranges xs at octets zs
  written = record {
    long = put.long ∙ extended_long ∙ long;
    kept = λ i below in_one. put.kept i (omega (arith, extended_long, long)) in_one ∙ get_or_append_left xs (replicate (size - length xs) 0) 0 i below;
    written = λ j below new. put.written j below (omega arith) new;
  }

  pub all_ranges : received_in (with_range at (at + length octets) ranges) zs ≡ kept_with (received_in ranges xs) at octets
  all_ranges = ranges_keep ranges xs at octets zs pieces some written

  -- zeros were there, or are there now
  zero_before : (i : ℕ) → i < length (extended xs size) → IsFalse (is_in i ranges) → get_or (extended xs size) i 0 ≡ 0
  zero_before i below out = elim (cases_lt i (length xs)) [
    | inl old ↦ get_or_append_left xs (replicate (size - length xs) 0) 0 i old ∙ zero_at ranges xs i zeros old out
    | inr new ↦
        let k : ℕ = i - length xs in
        let index : i ≡ length xs + k = omega arith in
        ap (λ (j : ℕ). get_or (extended xs size) j 0) index ∙ get_or-append-add xs (replicate (size - length xs) 0) k 0
        ∙ get_or-replicate (size - length xs) k 0 0 (omega (arith, extended_long))
  ]

  zeros_still : (i : ℕ) → i < length zs → IsFalse (is_in i (with_range at (at + length octets) ranges)) → get_or zs i 0 ≡ 0
  zeros_still i below out =
      let added = (range_is_added at (at + length octets) ranges (omega arith) pieces.runs).1 i in
      let both = or_parts (is_inside at (at + length octets) i) (is_in i ranges) (sym added ∙ out) in
      let inside : i < length (extended xs size) = omega (arith, put.long) in
      elim (cases_lt i at) [
        | inl early ↦ put.before i early inside ∙ zero_before i inside both.1
        | inr late ↦ elim (cases_lt i (at + length octets)) [
          | inl among ↦ absurd (both_ways (is_inside at (at + length octets) i) both.0 (inside_true at (at + length octets) i late among))
          | inr past ↦ put.following i past inside ∙ zero_before i inside both.1
        ]
      ]

  pub all_staged : staged_of (kept_with (received_in ranges xs) at octets) ≡ zs
  all_staged = ap staged_of (sym all_ranges) ∙ staged_are_kept (with_range at (at + length octets) ranges) zs zeros_still

  pub all_long : length (kept_with (received_in ranges xs) at octets) ≡ size
  all_long = ap length (sym all_ranges) ∙ length-received 0 (with_range at (at + length octets) ranges) zs ∙ put.long ∙ extended_long

-- and in the store -----------------------------------------------------------------------------

pub record IsKeptIn (ranges : Ranges) (at : ℕ) (octets : List ℕ) (slot : ℕ) (s u : Store) : Type 0 where
  pub whole : u ≡ with_changes s (Stages slot (staged_of (kept s.filestore slot ranges at octets)) ∷ [])
  pub ranges_are : received_in (with_range at (at + length octets) ranges) (staged_in u.filestore slot) ≡ kept s.filestore slot ranges at octets
  pub long : length (kept s.filestore slot ranges at octets) ≡ max (length (staged_in s.filestore slot)) (at + length octets)

pub kept_in : (ranges : Ranges) (at : ℕ) (octets : List ℕ) (slot size : ℕ) (s t u : Store) → slot < length s.filestore.staged → 0 < length octets
    → size ≡ max (length (staged_in s.filestore slot)) (at + length octets) → ArePieces ranges (staged_in s.filestore slot)
    → staged_of (received_in ranges (staged_in s.filestore slot)) ≡ staged_in s.filestore slot
    → t ≡ with_changes s (Stages slot (extended (staged_in s.filestore slot) size) ∷ []) → PutsOctets ranges at octets slot t u (at + length octets) →
    IsKeptIn ranges at octets slot s u
kept_in ranges at octets slot size s t u there some e pieces zeros f puts =
    let xs = staged_in s.filestore slot in
    let zs = staged_in u.filestore slot in
    let begun : staged_in t.filestore slot ≡ extended xs size = ap (λ (v : Store). staged_in v.filestore slot) f
    ∙ staged_anew s slot (extended xs size) there in
    let put : IsPut ranges at octets (extended xs size) zs (at + length octets) = rw begun at puts.put in
    let whole : u ≡ with_changes s (Stages slot zs ∷ []) =
    puts.store ∙ ap (λ (v : Store). with_changes v (Stages slot zs ∷ [])) f ∙ staged_twice s slot (extended xs size) zs in
    record {
      whole = whole ∙ ap (λ (ys : List ℕ). with_changes s (Stages slot ys ∷ [])) (sym (all_staged ranges at octets xs zs size e pieces some zeros put));
      ranges_are = all_ranges ranges at octets xs zs size e pieces some zeros put;
      long = all_long ranges at octets xs zs size e pieces some zeros put ∙ e;
    }
