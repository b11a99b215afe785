-- Offsets of a staged list at which there are zeros.
--     zeros_there                        some octets in a gap
--     none_blank, part_blank             a gap of no offsets, and a part of a gap
--     before_blank, after_blank          octets are written after a gap, and before it
--     left_blank, skipped_blank          what is left of a gap, and the octets that are left out before others
--     grown_blank, grown_end             zeros come to the end of the list
use Rattle.std.proofs.Common.{◌≡◌, ◌≢◌, ◌⊎◌, ℕ, ◌+◌, ◌-◌, ◌≤◌, max, List, ◌++◌, length, take, drop, replicate, refl, sym, ap, ◌∙◌, inl, inr, arith, length-drop, length-take}
use Rattle.std.proofs.lemmas.List.{length-replicate, take_all, drop-append-le, drop-drop, drop-replicate, take-replicate, replicate-append-replicate}
use Rattle.std.proofs.lemmas.Bool.{cases_eq, cases_lt}
use Rattle.std.specs.Prelude.{slice_range}
use Rattle.cfdp_actions.specs.Store.{extended, overwritten}
use Rattle.cfdp_tree.specs.declared.gap.Gap.{Gap}
use Rattle.cfdp_tree.specs.code.Slots.{IsBlank}
use Rattle.cfdp_tree.proofs.OfRuns.OctetsInLists.{slice_is, slice-first, slice-left, take-front}
use Rattle.cfdp_tree.proofs.OfRuns.Filling.{rest_written}

pub none_blank : (xs : List ℕ) (gap : Gap) → gap.from ≡ gap.to → IsBlank xs gap
none_blank xs gap empty =
    let none : gap.to - gap.from ≡ 0 = omega (arith, empty) in
    record {
      ordered = omega (arith, empty);
      zeros = ap (λ n. take n (drop gap.from xs)) none ∙ ap (λ n. replicate n 0) (sym none);
    }

-- a gap of some offsets is within the list
within : (xs : List ℕ) (gap : Gap) → IsBlank xs gap → gap.from ≢ gap.to → gap.to ≤ length xs
within xs gap blank some =
    let n = gap.to - gap.from in
    let long : length (take n (drop gap.from xs)) ≡ n = ap length blank.zeros ∙ length-replicate {A = ℕ} n 0 in
    omega (arith, long, length-take n (drop gap.from xs), length-drop gap.from xs, blank.ordered, some)

module _ (xs : List ℕ) (gap : Gap) (blank : IsBlank xs gap) where
  -- the octets of the gap, as zeros
  zeros_in : (a count : ℕ) → a + count ≤ gap.to - gap.from → take count (drop a (drop gap.from xs)) ≡ replicate count 0
  zeros_in a count inside =
      let n = gap.to - gap.from in
      let same : take n (drop gap.from xs) ≡ take n (replicate n 0) = blank.zeros ∙ sym (take-replicate n n 0 (omega arith)) in
      sym (slice_is (drop gap.from xs) a (a + count) count refl)
      ∙ slice-first (drop gap.from xs) (replicate n 0) n a (a + count) inside same
      ∙ slice_is (replicate n 0) a (a + count) count refl
      ∙ ap (take count) (drop-replicate a n 0)
      ∙ take-replicate count (n - a) 0 (omega (arith, inside))

  pub zeros_there : (at count : ℕ) → gap.from ≤ at → at + count ≤ gap.to → slice_range xs at (at + count) ≡ replicate count 0
  zeros_there at count after inside =
      let a = at - gap.from in
      let there : gap.from + a ≡ at = omega (arith, after) in
      slice_is xs at (at + count) count refl
      ∙ ap (λ m. take count (drop m xs)) (sym there)
      ∙ ap (take count) (sym (drop-drop a gap.from xs))
      ∙ zeros_in a count (omega (arith, after, inside))

  pub part_blank : (part : Gap) → gap.from ≤ part.from → part.from ≤ part.to → part.to ≤ gap.to → IsBlank xs part
  part_blank part begins ordered ends =
      let count = part.to - part.from in
      let end : part.from + count ≡ part.to = omega (arith, ordered) in
      record {
        ordered = ordered;
        zeros = ap (slice_range xs part.from) (sym end) ∙ zeros_there part.from count begins (omega (arith, ordered, ends));
      }

module _ (xs : List ℕ) (at : ℕ) (part : List ℕ) (range : at + length part ≤ length xs) where
  pub before_blank : (gap : Gap) → gap.to ≤ at → IsBlank xs gap → IsBlank (overwritten xs at part) gap
  before_blank gap before blank = record {
    ordered = blank.ordered;
    zeros = slice-first (overwritten xs at part) xs at gap.from gap.to before (take-front xs part at at (omega arith) (omega (arith, range))) ∙ blank.zeros;
  }

  pub after_blank : (gap : Gap) → at + length part ≤ gap.from → IsBlank xs gap → IsBlank (overwritten xs at part) gap
  after_blank gap after blank = elim (cases_eq gap.from gap.to) [
    | inl empty ↦ none_blank (overwritten xs at part) gap empty
    | inr some ↦ record {
      ordered = blank.ordered;
      zeros = ap (take (gap.to - gap.from)) (rest_written xs gap.from (omega (arith, blank.ordered, within xs gap blank some)) at part after) ∙ blank.zeros;
    }
  ]

  pub left_blank : (gap left : Gap) → IsBlank xs gap → left.from ≤ left.to → gap.from ≤ left.from → left.to ≤ gap.to → (left.to ≤ at)
      ⊎ ((at + length part ≤ left.from) ⊎ (left.from ≡ left.to))
      → IsBlank (overwritten xs at part) left
  left_blank gap left blank ordered begins ends apart =
      let there = part_blank xs gap blank left begins ordered ends in
      elim apart [
        | inl before ↦ before_blank left before there
        | inr other ↦ elim other [
          | inl after ↦ after_blank left after there
          | inr empty ↦ none_blank (overwritten xs at part) left empty
        ]
      ]

  pub skipped_blank : (end skipped : Gap) → IsBlank xs end → at ≤ end.to → skipped.from ≡ end.from → skipped.to ≡ max at end.from →
      IsBlank (overwritten xs at part) skipped
  skipped_blank end skipped blank range from_is to_is = elim (cases_lt at end.from) [
    | inl less ↦ none_blank (overwritten xs at part) skipped (omega (arith, from_is, to_is, less))
    | inr over ↦ before_blank skipped (omega (arith, to_is, over)) (part_blank xs end blank skipped (omega (arith, from_is)) (omega (arith, from_is, to_is))
        (omega (arith, to_is, over, range)))
  ]

module _ (xs : List ℕ) (size : ℕ) (longer : length xs ≤ size) where
  pub grown_blank : (gap : Gap) → IsBlank xs gap → IsBlank (extended xs size) gap
  grown_blank gap blank = elim (cases_eq gap.from gap.to) [
    | inl empty ↦ none_blank (extended xs size) gap empty
    | inr some ↦ record {
      ordered = blank.ordered;
      zeros = slice-left xs (replicate (size - length xs) 0) gap.from (gap.to - gap.from) (omega (arith, blank.ordered, within xs gap blank some))
          ∙ blank.zeros;
    }
  ]

  pub grown_end : (end grown : Gap) → IsBlank xs end → end.to ≡ length xs → grown.from ≡ end.from → grown.to ≡ size → IsBlank (extended xs size) grown
  grown_end end grown blank end_is from_is to_is =
      let more = size - length xs in
      let n = end.to - end.from in
      let inside : end.from ≤ length xs = omega (arith, blank.ordered, end_is) in
      let all : n + more ≡ grown.to - grown.from = omega (arith, end_is, from_is, to_is, inside, longer) in
      let left : drop end.from xs ≡ replicate n 0 = sym (take_all n (drop end.from xs) (omega (arith, length-drop end.from xs, end_is))) ∙ blank.zeros in
      record {
        ordered = omega (arith, from_is, to_is, inside, longer);
        zeros = ap (λ m. take (grown.to - grown.from) (drop m (xs ++ replicate more 0))) from_is
            ∙ ap (take (grown.to - grown.from)) (drop-append-le end.from xs (replicate more 0) inside ∙ ap (λ ys. ys ++ replicate more 0) left
            ∙ replicate-append-replicate n more 0 ∙ ap (λ m. replicate m 0) all)
            ∙ take-replicate (grown.to - grown.from) (grown.to - grown.from) 0 (omega arith);
      }
