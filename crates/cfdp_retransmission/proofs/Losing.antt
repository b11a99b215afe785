-- What losses leave of a round whose NAK PDUs are all heard. The measure is the number of holes: the longest runs of offsets that were not
-- received, below an offset. A piece that is lost makes one hole more at most; a piece that is passed over makes none, but at offset 0.
use Rattle.std.specs.Prelude.{if◌then◌else◌, ◌&&◌, not, Bool, true, false, Option, Some, None, is_some}
use Rattle.std.specs.Option.{option_or}
use Rattle.std.proofs.Common.{◌≡◌, inl, inr, ℕ, zero, suc, ◌+◌, ◌-◌, ◌<◌, ◌≤◌, List, [], ◌∷◌, ◌++◌, length, refl, sym, ap, subst, ◌∙◌, arith}
use Rattle.std.proofs.lemmas.Bool.{cases_lt, cases_Bool, and_left, and_right, not_from_true, lt-ltb, le-ltb, le-leb, lt-leb}
use Rattle.cfdp_status.proofs.Options.{or_none}
use Rattle.cfdp_transactions.specs.Received.{Received, kept_with, brought, pieces, pieces_from, gaps_below}
use Rattle.cfdp_transactions.specs.ReceivedLaws.{octet_at, IsIn, AreRuns}
use Rattle.cfdp_transactions.proofs.Received.OctetsAndGaps.{first_stays, gaps_are_missing, gaps_are_runs}
use Rattle.cfdp_retransmission.specs.Naks.{SegmentRequest}
use Rattle.cfdp_retransmission.specs.Coming.{Piece, keep, keep_all, zero_missing}
use Rattle.cfdp_retransmission.specs.Rounds.{Sending, Covers, AnswersInOrder, arrived, lost, spare_round}
use Rattle.cfdp_retransmission.proofs.Arriving.{room, joins, comes}
use Rattle.cfdp_transactions.proofs.Soundness.Receiving.{kept_within}
use Rattle.cfdp_transactions.proofs.Received.PieceRanges.{runs_sooner}
use Rattle.cfdp_transactions.proofs.Received.Writing.{brought_before}
use Rattle.cfdp_pdus.specs.Bits.{one_if}
use Rattle.cfdp_pdus.proofs.CanonicalSteps.{one_if-small}

-- `before`: the offset before was received, or there is none
abbrev pub holes_from : Bool → ℕ → Received → ℕ
holes_from before zero rs = 0
holes_from before (suc n) [] = one_if before + holes_from false n []
holes_from before (suc n) (None ∷ rs) = one_if before + holes_from false n rs
holes_from before (suc n) (Some x ∷ rs) = holes_from true n rs

abbrev pub holes : ℕ → Received → ℕ
holes n rs = holes_from true n rs

-- a hole begins at this offset
abbrev begins_from : Bool → Received → ℕ → Bool
begins_from before rs zero = before && not (is_some (octet_at rs 0))
begins_from before rs (suc i) = is_some (octet_at rs i) && not (is_some (octet_at rs (suc i)))

shifted : (before : Bool) (r : Option ℕ) (rs : Received) (n : ℕ) → begins_from before (r ∷ rs) (suc n) ≡ begins_from (is_some r) rs n
shifted before r rs zero = refl
shifted before r rs (suc n) = refl

past_end : (before : Bool) (n : ℕ) → begins_from before [] (suc n) ≡ begins_from false [] n
past_end before zero = refl
past_end before (suc n) = refl

one_more : (before : Bool) (n : ℕ) (rs : Received) → holes_from before (suc n) rs ≡ holes_from before n rs + one_if (begins_from before rs n)
one_more true zero [] = refl
one_more false zero [] = refl
one_more true zero (None ∷ rs) = refl
one_more false zero (None ∷ rs) = refl
one_more true zero (Some x ∷ rs) = refl
one_more false zero (Some x ∷ rs) = refl
one_more before (suc n) [] = omega (arith, one_more false n [], ap one_if (past_end before n))
one_more before (suc n) (None ∷ rs) = omega (arith, one_more false n rs, ap one_if (shifted before None rs n))
one_more before (suc n) (Some x ∷ rs) = omega (arith, one_more true n rs, ap one_if (shifted before (Some x) rs n))

-- pieces and holes take turns
turns : (n : ℕ) (rs : Received) → length rs ≤ n → (pieces_from true rs ≤ holes_from true n rs) × (pieces_from false rs ≤ 1 + holes_from false n rs)
turns n [] h = (omega arith, omega arith)
turns zero (r ∷ rs) h = absurd (omega (arith, h))
turns (suc n) (None ∷ rs) h = let t = turns n rs (omega (arith, h)) in (omega (arith, t.1), omega (arith, t.1))
turns (suc n) (Some x ∷ rs) h = let t = turns n rs (omega (arith, h)) in (omega (arith, t.0), omega (arith, t.0))

pub few_parts : (n : ℕ) (rs : Received) → length rs ≤ n → pieces rs + zero_missing rs ≤ 1 + holes n rs
few_parts n [] h = omega arith
few_parts zero (r ∷ rs) h = absurd (omega (arith, h))
few_parts (suc n) (None ∷ rs) h = omega (arith, (turns n rs (omega (arith, h))).1)
few_parts (suc n) (Some x ∷ rs) h = omega (arith, (turns n rs (omega (arith, h))).0)

-- ---- where a hole begins

begins_not_there : (rs : Received) (i : ℕ) → is_some (octet_at rs i) ≡ true → begins_from true rs i ≡ false
begins_not_there rs zero h = not_from_true (is_some (octet_at rs 0)) h
begins_not_there rs (suc i) h = and_right (is_some (octet_at rs i)) (not (is_some (octet_at rs (suc i)))) (not_from_true (is_some (octet_at rs (suc i))) h)

begins_not_inside : (rs : Received) (i : ℕ) → is_some (octet_at rs i) ≡ false → begins_from true rs (suc i) ≡ false
begins_not_inside rs i h = and_left (is_some (octet_at rs i)) (not (is_some (octet_at rs (suc i)))) h

begins_same : (rs ts : Received) (i : ℕ) → ((j : ℕ) → j < suc i → is_some (octet_at rs j) ≡ is_some (octet_at ts j)) → begins_from true rs i
    ≡ begins_from true ts i
begins_same rs ts zero same = ap not (same 0 (omega arith))
begins_same rs ts (suc i) same =
    ap (λ (b : Bool). b && not (is_some (octet_at rs (suc i)))) (same i (omega arith))
    ∙ ap (λ (b : Bool). is_some (octet_at ts i) && not b) (same (suc i) (omega arith))

holes_same : (n : ℕ) (rs ts : Received) → ((j : ℕ) → j < n → is_some (octet_at rs j) ≡ is_some (octet_at ts j)) → holes n rs ≡ holes n ts
holes_same zero rs ts same = refl
holes_same (suc n) rs ts same =
    omega (
      arith,
      one_more true n rs,
      one_more true n ts,
      holes_same n rs ts (λ j h. same j (omega (arith, h))),
      ap one_if (begins_same rs ts n (λ j h. same j h)),
    )

-- ---- from one offset to a later one: `l` offsets on

abbrev on : ℕ → ℕ → ℕ
on zero x = x
on (suc l) x = suc (on l x)

on_is : (l x : ℕ) → on l x ≡ x + l
on_is zero x = omega arith
on_is (suc l) x = omega (arith, on_is l x)

over_there : (rs : Received) (x l : ℕ) → ((i : ℕ) → x ≤ i → i < x + l → is_some (octet_at rs i) ≡ true) → holes (on l x) rs ≡ holes x rs
over_there rs x zero h = refl
over_there rs x (suc l) h =
    let last = begins_not_there rs (on l x) (h (on l x) (omega (arith, on_is l x)) (omega (arith, on_is l x))) in
    omega (arith, one_more true (on l x) rs, ap one_if last, over_there rs x l (λ i low high. h i low (omega (arith, high))))

-- no hole begins after the first of them
over_missing : (rs : Received) (x l : ℕ) → ((i : ℕ) → x ≤ i → i < x + suc l → is_some (octet_at rs i) ≡ false) →
    holes (on (suc l) x) rs ≡ holes x rs + one_if (begins_from true rs x)
over_missing rs x zero h = one_more true x rs
over_missing rs x (suc l) h =
    let last = begins_not_inside rs (on l x) (h (on l x) (omega (arith, on_is l x)) (omega (arith, on_is l x))) in
    omega (arith, one_more true (suc (on l x)) rs, ap one_if last, over_missing rs x l (λ i low high. h i low (omega (arith, high))))

over_missing_most : (rs : Received) (x l : ℕ) → ((i : ℕ) → x ≤ i → i < x + l → is_some (octet_at rs i) ≡ false) → holes (on l x) rs ≤ holes x rs + 1
over_missing_most rs x zero h = omega arith
over_missing_most rs x (suc l) h = omega (arith, over_missing rs x l h, one_if-small (begins_from true rs x))

-- a hole that began before goes on
over_missing_on : (rs : Received) (x l : ℕ) → is_some (octet_at rs x) ≡ false → ((i : ℕ) → suc x ≤ i → i < suc x + suc l → is_some (octet_at rs i) ≡ false) →
    holes (on (suc l) (suc x)) rs ≡ holes (suc x) rs
over_missing_on rs x l before h = omega (arith, over_missing rs (suc x) l h, ap one_if (begins_not_inside rs x before))

-- where there is no hole, all is there
true_or : (b c : Bool) → b ≡ true → one_if (b && not c) ≡ 0 → c ≡ true
true_or b true h e = refl
true_or true false h e = absurd (omega (arith, e))
true_or false false h e = absurd cc

pub no_hole : (n : ℕ) (rs : Received) → holes n rs ≡ 0 → (i : ℕ) → i < n → is_some (octet_at rs i) ≡ true
no_hole zero rs none i h = absurd (omega (arith, h))
no_hole (suc zero) rs none zero h = true_or true (is_some (octet_at rs 0)) refl (omega (arith, one_more true 0 rs, none))
no_hole (suc zero) rs none (suc i) h = absurd (omega (arith, h))
no_hole (suc (suc n)) rs none i h =
    let more = one_more true (suc n) rs in
    let below = no_hole (suc n) rs (omega (arith, more, none)) in
    elim (cases_lt i (suc n)) [
      | inl low ↦ below i low
      | inr high ↦
          let last : is_some (octet_at rs (suc n)) ≡ true =
          true_or (is_some (octet_at rs n)) (is_some (octet_at rs (suc n))) (below n (omega arith)) (omega (arith, more, none)) in
          subst (λ (j : ℕ). is_some (octet_at rs j) ≡ true) (omega (arith, h, high)) last
    ]

-- ---- what a piece changes

some_left : (o p : Option ℕ) → p ≡ None → is_some (option_or o p) ≡ is_some o
some_left None p e = ap is_some e
some_left (Some x) p e = refl

brings_none_past : (at : ℕ) (xs : List ℕ) (i : ℕ) → at + length xs ≤ i → brought at xs i ≡ None
brings_none_past zero [] i h = refl
brings_none_past zero (x ∷ xs) zero h = absurd (omega (arith, h))
brings_none_past zero (x ∷ xs) (suc i) h = brings_none_past zero xs i (omega (arith, h))
brings_none_past (suc at) xs zero h = absurd (omega (arith, h))
brings_none_past (suc at) xs (suc i) h = brings_none_past at xs i (omega (arith, h))

pub brings_some : (at : ℕ) (xs : List ℕ) (i : ℕ) → at ≤ i → i < at + length xs → is_some (brought at xs i) ≡ true
brings_some zero [] i low high = absurd (omega (arith, high))
brings_some zero (x ∷ xs) zero low high = refl
brings_some zero (x ∷ xs) (suc i) low high = brings_some zero xs i (omega arith) (omega (arith, high))
brings_some (suc at) xs zero low high = absurd (omega (arith, low))
brings_some (suc at) xs (suc i) low high = brings_some at xs i (omega (arith, low)) (omega (arith, high))

-- ---- one round

-- `rs` was received before the round, `now` after a part of it, which reached the offset `x` and lost `gone` pieces
pub record Inside (limit : ℕ) (rs now : Received) (x gone : ℕ) : Type 0 where
  pub later : (i : ℕ) → x ≤ i → octet_at now i ≡ octet_at rs i
  pub few_holes : holes x now ≤ gone + spare_round rs
  pub few : pieces now ≤ 32
  pub short : length now ≤ limit
  pub first : x ≡ 0 → now ≡ rs

pub spare_is : (rs : Received) → 32 < pieces rs + zero_missing rs → spare_round rs ≡ 1
spare_is rs h = rw (lt-leb (pieces rs + zero_missing rs) 32 h) refl

pub no_spare : (rs : Received) → pieces rs + zero_missing rs ≤ 32 → spare_round rs ≡ 0
no_spare rs h = rw (le-leb (pieces rs + zero_missing rs) 32 h) refl

-- the piece is lost
after_lost : (limit : ℕ) (rs now : Received) (x gone l : ℕ) → Inside limit rs now x gone →
    ((i : ℕ) → x ≤ i → i < x + l → is_some (octet_at now i) ≡ false) → Inside limit rs now (x + l) (1 + gone)
after_lost limit rs now x gone l inside missing = record {
  later = λ i h. inside.later i (omega (arith, h));
  few_holes = omega (arith, over_missing_most now x l missing, ap (λ (n : ℕ). holes n now) (on_is l x), inside.few_holes);
  few = inside.few;
  short = inside.short;
  first = λ e. inside.first (omega (arith, e));
}

pub kept_none : (rs : Received) (at : ℕ) (xs : List ℕ) → length xs ≡ 0 → kept_with rs at xs ≡ rs
kept_none rs at [] e = refl
kept_none rs at (x ∷ xs) e = absurd (omega (arith, e))

-- it is kept
after_kept : (limit : ℕ) (rs now : Received) (x gone : ℕ) (xs : List ℕ) → Inside limit rs now x gone → x + length xs ≤ limit →
    pieces (kept_with now x xs) ≤ 32 →
    Inside limit rs (kept_with now x xs) (x + length xs) gone
after_kept limit rs now x gone xs inside fits few =
    let new = kept_with now x xs in
    let there : (i : ℕ) → x ≤ i → i < x + length xs → is_some (octet_at new i) ≡ true =
    λ i low high. ap is_some (first_stays now x xs i) ∙ comes (octet_at now i) (brought x xs i) (brings_some x xs i low high) in
    let below : (i : ℕ) → i < x → is_some (octet_at new i) ≡ is_some (octet_at now i) =
    λ i h. ap is_some (first_stays now x xs i) ∙ some_left (octet_at now i) (brought x xs i) (brought_before x xs i h) in
    record {
      later = λ i h. first_stays now x xs i ∙ ap (option_or (octet_at now i)) (brings_none_past x xs i h) ∙ or_none (octet_at now i)
          ∙ inside.later i (omega (arith, h));
      few_holes = omega (
        arith,
        over_there new x (length xs) there,
        ap (λ (n : ℕ). holes n new) (on_is (length xs) x),
        holes_same x new now below,
        inside.few_holes,
      );
      few = few;
      short = kept_within now x xs limit inside.short fits;
      first = λ e. kept_none now x xs (omega (arith, e)) ∙ inside.first (omega (arith, e));
    }

-- it is passed over
after_passed : (limit : ℕ) (rs now : Received) (x gone : ℕ) (xs : List ℕ) → Inside limit rs now x gone →
    ((i : ℕ) → x ≤ i → i < x + length xs → is_some (octet_at now i) ≡ false) → 32 < pieces (kept_with now x xs) → Inside limit rs now (x + length xs) gone
after_passed limit rs now x gone [] inside missing over = absurd (omega (arith, over, inside.few))
after_passed limit rs now zero gone (z ∷ zs) inside missing over =
    let grown = room now zero (z ∷ zs) refl in
    let same : pieces now + zero_missing now ≡ pieces rs + zero_missing rs = ap (λ (r : Received). pieces r + zero_missing r) (inside.first refl) in
    let spare : spare_round rs ≡ 1 = spare_is rs (omega (arith, grown, over, same)) in
    let l = length (z ∷ zs) in
    record {
      later = λ i h. inside.later i (omega arith);
      few_holes = omega (arith, over_missing_most now zero l missing, ap (λ (n : ℕ). holes n now) (on_is l zero), spare);
      few = inside.few;
      short = inside.short;
      first = λ e. absurd (omega (arith, e));
    }
after_passed limit rs now (suc y) gone (z ∷ zs) inside missing over =
    let before : is_some (octet_at now y) ≡ false =
    elim (cases_Bool (is_some (octet_at now y))) [
      | inl here ↦ absurd (omega (arith, joins false now y (z ∷ zs) here, over, inside.few))
      | inr none ↦ none
    ] in
    let l = length (z ∷ zs) in
    record {
      later = λ i h. inside.later i (omega (arith, h));
      few_holes = omega (arith, over_missing_on now y (length zs) before missing, ap (λ (n : ℕ). holes n now) (on_is l (suc y)), inside.few_holes);
      few = inside.few;
      short = inside.short;
      first = λ e. absurd (omega (arith, e));
    }

-- it arrives
after_arrived : (limit : ℕ) (rs now : Received) (gone : ℕ) (p : Piece) → Inside limit rs now p.0 gone → p.0 + length p.1 ≤ limit →
    ((i : ℕ) → p.0 ≤ i → i < p.0 + length p.1 → is_some (octet_at now i) ≡ false) → Inside limit rs (keep now p) (p.0 + length p.1) gone
after_arrived limit rs now gone p inside fits missing = elim (cases_lt 32 (pieces (kept_with now p.0 p.1))) [
  | inl over ↦
      let same : keep now p ≡ now = rw (lt-ltb 32 (pieces (kept_with now p.0 p.1)) over) refl in
      subst (λ (r : Received). Inside limit rs r (p.0 + length p.1) gone) (sym same) (after_passed limit rs now p.0 gone p.1 inside missing over)
  | inr few ↦
      let same : keep now p ≡ kept_with now p.0 p.1 = rw (le-ltb 32 (pieces (kept_with now p.0 p.1)) few) refl in
      subst (λ (r : Received). Inside limit rs r (p.0 + length p.1) gone) (sym same) (after_kept limit rs now p.0 gone p.1 inside fits few)
]

-- ---- one request

pub covers_rise : (x end : ℕ) (ss : List Sending) → Covers x end ss → x ≤ end
covers_rise x end [] c = omega (arith, c)
covers_rise x end (s ∷ ss) c = omega (arith, covers_rise (x + length s.piece.1) end ss c.1)

abbrev FrontIn : ℕ → Received → ℕ → List Sending → Type 0
FrontIn limit rs end ss =
    (now : Received) (x gone : ℕ) → Inside limit rs now x gone → Covers x end ss →
    ((i : ℕ) → x ≤ i → i < end → is_some (octet_at rs i) ≡ false) → Inside limit rs (keep_all now (arrived ss)) end (gone + lost ss)

front_by : (limit : ℕ) (rs : Received) (end : ℕ) (b : Bool) (p : Piece) (ss : List Sending) → FrontIn limit rs end ss → end ≤ limit →
    (now : Received) (gone : ℕ) → Inside limit rs now p.0 gone → Covers (p.0 + length p.1) end ss →
    ((i : ℕ) → p.0 ≤ i → i < end → is_some (octet_at rs i) ≡ false) →
    Inside limit rs (keep_all now (if b then arrived ss else p ∷ arrived ss)) end (gone + (one_if b + lost ss))
front_by limit rs end true p ss ih fits now gone inside covers missing =
    let rise = covers_rise (p.0 + length p.1) end ss covers in
    let here : (i : ℕ) → p.0 ≤ i → i < p.0 + length p.1 → is_some (octet_at now i) ≡ false =
    λ i low high. ap is_some (inside.later i low) ∙ missing i low (omega (arith, high, rise)) in
    let last = ih now (p.0 + length p.1) (1 + gone) (after_lost limit rs now p.0 gone (length p.1) inside here) covers
    (λ i low high. missing i (omega (arith, low)) high) in
    subst (λ (n : ℕ). Inside limit rs (keep_all now (arrived ss)) end n) (omega arith) last
front_by limit rs end false p ss ih fits now gone inside covers missing =
    let rise = covers_rise (p.0 + length p.1) end ss covers in
    let here : (i : ℕ) → p.0 ≤ i → i < p.0 + length p.1 → is_some (octet_at now i) ≡ false =
    λ i low high. ap is_some (inside.later i low) ∙ missing i low (omega (arith, high, rise)) in
    let last =
    ih (keep now p) (p.0 + length p.1) gone (after_arrived limit rs now gone p inside (omega (arith, rise, fits)) here) covers
    (λ i low high. missing i (omega (arith, low)) high) in
    subst (λ (n : ℕ). Inside limit rs (keep_all (keep now p) (arrived ss)) end n) (omega arith) last

over_front : (limit : ℕ) (rs : Received) (end : ℕ) (ss : List Sending) → end ≤ limit → FrontIn limit rs end ss
over_front limit rs end [] fits now x gone inside covers missing =
    subst (λ (y : ℕ). Inside limit rs now y (gone + 0)) covers (subst (λ (n : ℕ). Inside limit rs now x n) (omega arith) inside)
over_front limit rs end (s ∷ ss) fits now x gone inside covers missing =
    let at : x ≡ s.piece.0 = sym covers.0 in
    front_by limit rs end s.is_lost s.piece ss (over_front limit rs end ss fits) fits now gone
    (subst (λ (y : ℕ). Inside limit rs now y gone) at inside)
    (subst (λ (y : ℕ). Covers (y + length s.piece.1) end ss) at covers.1)
    (subst (λ (y : ℕ). (i : ℕ) → y ≤ i → i < end → is_some (octet_at rs i) ≡ false) at missing)

-- ---- all requests

-- from one offset to a later one all is there
over_received : (limit : ℕ) (rs now : Received) (x y gone : ℕ) → Inside limit rs now x gone → x ≤ y →
    ((i : ℕ) → x ≤ i → i < y → is_some (octet_at rs i) ≡ true) →
    Inside limit rs now y gone
over_received limit rs now x y gone inside rise there =
    let l = y - x in
    let end : on l x ≡ y = omega (arith, on_is l x, rise) in
    let here : (i : ℕ) → x ≤ i → i < x + l → is_some (octet_at now i) ≡ true =
    λ i low high. ap is_some (inside.later i low) ∙ there i low (omega (arith, high, rise)) in
    record {
      later = λ i h. inside.later i (omega (arith, h, rise));
      few_holes = omega (arith, over_there now x l here, ap (λ (n : ℕ). holes n now) end, inside.few_holes);
      few = inside.few;
      short = inside.short;
      first = λ e. inside.first (omega (arith, e, rise));
    }

both_by : (c : Bool) (now : Received) (p : Piece) (f b : List Sending) →
    ((r : Received) → keep_all r (arrived (f ++ b)) ≡ keep_all (keep_all r (arrived f)) (arrived b)) →
    keep_all now (if c then arrived (f ++ b) else p ∷ arrived (f ++ b)) ≡ keep_all (keep_all now (if c then arrived f else p ∷ arrived f)) (arrived b)
both_by true now p f b ih = ih now
both_by false now p f b ih = ih (keep now p)

pub arrived_both : (now : Received) (f b : List Sending) → keep_all now (arrived (f ++ b)) ≡ keep_all (keep_all now (arrived f)) (arrived b)
arrived_both now [] b = refl
arrived_both now (s ∷ f) b = both_by s.is_lost now s.piece f b (λ r. arrived_both r f b)

pub lost_both : (f b : List Sending) → lost (f ++ b) ≡ lost f + lost b
lost_both [] b = omega arith
lost_both (s ∷ f) b = omega (arith, lost_both f b)

runs_from : (from : ℕ) (rs : List SegmentRequest) (i : ℕ) → AreRuns from rs → IsIn i rs → from ≤ i
runs_from from [] i runs h = elim h [ ]
runs_from from (r ∷ rs) i runs (inl h) = omega (arith, runs.0, h.0)
runs_from from (r ∷ rs) i runs (inr h) = omega (arith, runs.0, runs.1, runs_from (r.1 + 1) rs i runs.2 h)

pub in_rest : (r : SegmentRequest) (rs : List SegmentRequest) (i : ℕ) → r.1 ≤ i → IsIn i (r ∷ rs) → IsIn i rs
in_rest r rs i h (inl here) = absurd (omega (arith, h, here.1))
in_rest r rs i h (inr there) = there

pub from_start : (r : SegmentRequest) (rs : List SegmentRequest) (i : ℕ) → r.0 < r.1 → AreRuns (r.1 + 1) rs → IsIn i (r ∷ rs) → r.0 ≤ i
from_start r rs i some runs (inl here) = here.0
from_start r rs i some runs (inr there) = omega (arith, some, runs_from (r.1 + 1) rs i runs there)

-- received, or in a request
pub there_or_not : (o : Option ℕ) → (o ≡ None → ⊥) → is_some o ≡ true
there_or_not None h = absurd (h refl)
there_or_not (Some x) h = refl

over_requests : (limit : ℕ) (rs : Received) (requests : List SegmentRequest) (sent : List Sending) (now : Received) (x gone : ℕ) →
    Inside limit rs now x gone → x ≤ limit → AreRuns x requests →
    ((i : ℕ) → x ≤ i → i < limit → octet_at rs i ≡ None → IsIn i requests) →
    ((i : ℕ) → IsIn i requests → (i < limit) × (octet_at rs i ≡ None)) →
    AnswersInOrder requests sent → Inside limit rs (keep_all now (arrived sent)) limit (gone + lost sent)
over_requests limit rs [] sent now x gone inside fits runs all only answers =
    let end = over_received limit rs now x limit gone inside fits (λ i low high. there_or_not (octet_at rs i) (λ e. elim (all i low high e) [ ])) in
    subst (λ (ss : List Sending). Inside limit rs (keep_all now (arrived ss)) limit (gone + lost ss)) (sym answers)
    (subst (λ (n : ℕ). Inside limit rs now limit n) (omega arith) end)
over_requests limit rs (r ∷ rest) sent now x gone inside fits runs all only answers =
    let front = answers.0 in
    let back = answers.1 in
    let first_in : IsIn r.0 (r ∷ rest) = inl (omega arith, runs.1) in
    let last_in : IsIn (r.1 - 1) (r ∷ rest) = inl (omega (arith, runs.1), omega (arith, runs.1)) in
    let low_fits : r.0 ≤ limit = omega (arith, (only r.0 first_in).0) in
    let high_fits : r.1 ≤ limit = omega (arith, runs.1, (only (r.1 - 1) last_in).0) in
    let start = over_received limit rs now x r.0 gone inside runs.0 (λ i low high.
    there_or_not (octet_at rs i) (λ e. absurd (omega (arith, high, from_start r rest i runs.1 runs.2 (all i low (omega (arith, high, low_fits)) e))))) in
    let missing : (i : ℕ) → r.0 ≤ i → i < r.1 → is_some (octet_at rs i) ≡ false = λ i low high. ap is_some (only i (inl (low, high))).1 in
    let middle = over_front limit rs r.1 front high_fits now r.0 gone start answers.3 missing in
    let end =
    over_requests limit rs rest back (keep_all now (arrived front)) r.1 (gone + lost front) middle high_fits
    (runs_sooner (r.1 + 1) r.1 rest (omega arith) runs.2)
    (λ i low high e. in_rest r rest i low (all i (omega (arith, low, runs.0, runs.1)) high e))
    (λ i h. only i (inr h)) answers.4 in
    let counted : (gone + lost front) + lost back ≡ gone + lost (front ++ back) = omega (arith, lost_both front back) in
    subst (λ (ss : List Sending). Inside limit rs (keep_all now (arrived ss)) limit (gone + lost ss)) (sym answers.2)
    (subst (λ (q : Received). Inside limit rs q limit (gone + lost (front ++ back))) (sym (arrived_both now front back))
    (subst (λ (n : ℕ). Inside limit rs (keep_all (keep_all now (arrived front)) (arrived back)) limit n) counted end))

pub one_round : (limit : ℕ) (rs : Received) (sent : List Sending) → pieces rs ≤ 32 → length rs ≤ limit → AnswersInOrder (gaps_below limit rs) sent →
    Inside limit rs (keep_all rs (arrived sent)) limit (lost sent)
one_round limit rs sent few short answers =
    subst (λ (n : ℕ). Inside limit rs (keep_all rs (arrived sent)) limit n) (omega arith) (over_requests limit rs (gaps_below limit rs) sent rs 0 0
    (record { later = λ i h. refl; few_holes = omega arith; few = few; short = short; first = λ e. refl })
    (omega arith) (gaps_are_runs limit rs)
    (λ i low high e. (gaps_are_missing limit rs i).1 (high, e)) (λ i h. (gaps_are_missing limit rs i).0 h) answers)
