-- What is true of each script.
--     quiet_is_same, others_part, each_comes      the laws
use Rattle.std.proofs.Common.{◌≡◌, refl, sym, ◌∙◌, ap, ℕ, ◌+◌, Bool, true, false, cond, List, [], ◌∷◌, ◌++◌, append_assoc, arith}
use Rattle.std.specs.Prelude.{bytes_eq, if◌then◌else◌}
use Rattle.cfdp_disturb.specs.declared.draws.Copies.TheVariants.{Lost, Once, Twice}
use Rattle.cfdp_disturb.specs.Disturbing.{Copies, Drawn, both, copies_of, disturbed, is_held, is_pdu_line, said}
use Rattle.cfdp_disturb.proofs.TakenLines.{alone}
use Rattle.cfdp_disturb.specs.Laws.{IsQuiet, QuietIsSame, OthersPart, EachComes, count_of, times_of_line, times_drawn}
use Rattle.std.proofs.lemmas.Bool.{and_left, and_right}

-- nothing happens --------------------------------------------------------------------

once_by : (pdu : Bool) (copies : Copies) (line : List ℕ) → copies ≡ Once → cond pdu (copies_of copies line) (line ∷ []) ≡ line ∷ []
once_by true copies line e = ap (λ c. copies_of c line) e
once_by false copies line e = refl

said_once : (a : Drawn) → IsQuiet a → said a ≡ a.0 ∷ []
unfolding said
said_once a quiet = once_by (is_pdu_line a.0) a.1.copies a.0 quiet.once

free : (a : Drawn) → IsQuiet a → is_held a ≡ false
unfolding is_held
free a quiet = and_left a.1.swapped (is_pdu_line a.0) quiet.in_turn

pub quiet_is_same : QuietIsSame
unfolding disturbed
quiet_is_same [] quiet = refl
quiet_is_same (a ∷ []) quiet = said_once a quiet.0
quiet_is_same (a ∷ b ∷ rest) quiet =
    ap (λ h. cond h (both a b ++ disturbed rest) (said a ++ disturbed (b ∷ rest))) (free a quiet.0)
    ∙ ap (λ s. s ++ disturbed (b ∷ rest)) (said_once a quiet.0)
    ∙ ap (λ s. a.0 ∷ s) (quiet_is_same (b ∷ rest) quiet.1)

-- other lines stay where they are ------------------------------------------------------

said_other : (a : Drawn) → is_pdu_line a.0 ≡ false → said a ≡ a.0 ∷ []
unfolding said
said_other a other = ap (λ p. cond p (copies_of a.1.copies a.0) (a.0 ∷ [])) other

loose : (a : Drawn) → is_pdu_line a.0 ≡ false → is_held a ≡ false
unfolding is_held
loose a other = and_right a.1.swapped (is_pdu_line a.0) other

other_alone : (a : Drawn) (after : List Drawn) → is_pdu_line a.0 ≡ false → disturbed (a ∷ after) ≡ a.0 ∷ disturbed after
other_alone a after other = alone a after (loose a other) ∙ ap (λ s. s ++ disturbed after) (said_other a other)

both_other : (a b : Drawn) → is_pdu_line b.0 ≡ false → both a b ≡ said a ++ b.0 ∷ []
unfolding both
both_other a b other = ap (λ p. cond p (said b ++ said a) (said a ++ said b)) other ∙ ap (λ s. said a ++ s) (said_other b other)

by_held : (h : Bool) (x a : Drawn) (after : List Drawn) → is_pdu_line a.0 ≡ false →
    cond h (both x a ++ disturbed after) (said x ++ disturbed (a ∷ after)) ≡ said x ++ a.0 ∷ disturbed after
by_held true x a after other = ap (λ s. s ++ disturbed after) (both_other x a other) ∙ append_assoc (said x) (a.0 ∷ []) (disturbed after)
by_held false x a after other = ap (λ s. said x ++ s) (other_alone a after other)

further : (h : Bool) (one two first second tail other_tail last : List (List ℕ)) → tail ≡ first ++ last → other_tail ≡ second ++ last →
    cond h (one ++ tail) (two ++ other_tail) ≡ cond h (one ++ first) (two ++ second) ++ last
further true one two first second tail other_tail last e f = ap (λ s. one ++ s) e ∙ sym (append_assoc one first last)
further false one two first second tail other_tail last e f = ap (λ s. two ++ s) f ∙ sym (append_assoc two second last)

pub others_part : OthersPart
unfolding disturbed
others_part [] after a other = other_alone a after other
others_part (x ∷ []) after a other = by_held (is_held x) x a after other
others_part (x ∷ y ∷ rest) after a other =
    further (is_held x) (both x y) (said x) (disturbed rest) (disturbed (y ∷ rest)) (disturbed (rest ++ a ∷ after)) (disturbed (y ∷ rest ++ a ∷ after))
    (a.0 ∷ disturbed after)
    (others_part rest after a other) (others_part (y ∷ rest) after a other)

-- each line comes as often as was drawn ---------------------------------------------------

abbrev weight : List ℕ → Drawn → ℕ
weight line a = if bytes_eq line a.0 then (if is_pdu_line a.0 then count_of a.1.copies else 1) else 0

times-append : (line : List ℕ) (xs ys : List (List ℕ)) → times_of_line line (xs ++ ys) ≡ times_of_line line xs + times_of_line line ys
times-append line [] ys = omega arith
times-append line (x ∷ xs) ys = let later = times-append line xs ys in omega (arith, later)

lost_times : (same : Bool) (n : ℕ) → (if same then n else n) ≡ n
lost_times true n = refl
lost_times false n = refl

once_times : (same : Bool) → (if same then 1 else 0) + 0 ≡ (if same then 1 else 0)
once_times true = refl
once_times false = refl

twice_times : (same : Bool) → (if same then 1 else 0) + ((if same then 1 else 0) + 0) ≡ (if same then 2 else 0)
twice_times true = refl
twice_times false = refl

by_copies : (copies : Copies) (line other : List ℕ) → times_of_line line (copies_of copies other) ≡ (if bytes_eq line other then count_of copies else 0)
by_copies Lost line other = sym (lost_times (bytes_eq line other) 0)
by_copies Once line other = once_times (bytes_eq line other)
by_copies Twice line other = twice_times (bytes_eq line other)

by_pdu : (pdu : Bool) (copies : Copies) (line other : List ℕ) →
    times_of_line line (cond pdu (copies_of copies other) (other ∷ [])) ≡ (if bytes_eq line other then (if pdu then count_of copies else 1) else 0)
by_pdu true copies line other = by_copies copies line other
by_pdu false copies line other = by_copies Once line other

times_said : (line : List ℕ) (a : Drawn) → times_of_line line (said a) ≡ weight line a
unfolding said
times_said line a = by_pdu (is_pdu_line a.0) a.1.copies line a.0

times_both_by : (pdu : Bool) (line : List ℕ) (a b : Drawn) → times_of_line line (cond pdu (said b ++ said a) (said a ++ said b)) ≡ weight line a + weight line b
times_both_by true line a b = let one = times-append line (said b) (said a) in let two = times_said line a in let three = times_said line b in
    omega (arith, one, two, three)
times_both_by false line a b = let one = times-append line (said a) (said b) in let two = times_said line a in let three = times_said line b in
    omega (arith, one, two, three)

times_both : (line : List ℕ) (a b : Drawn) → times_of_line line (both a b) ≡ weight line a + weight line b
unfolding both
times_both line a b = times_both_by (is_pdu_line b.0) line a b

more_by : (h : Bool) (line : List ℕ) (a b : Drawn) (xs ys : List (List ℕ)) (n : ℕ) → times_of_line line xs ≡ n → times_of_line line ys ≡ weight line b + n →
    times_of_line line (cond h (both a b ++ xs) (said a ++ ys)) ≡ weight line a + (weight line b + n)
more_by true line a b xs ys n e f = let one = times-append line (both a b) xs in let two = times_both line a b in omega (arith, one, two, e)
more_by false line a b xs ys n e f = let one = times-append line (said a) ys in let two = times_said line a in omega (arith, one, two, f)

pub each_comes : EachComes
unfolding disturbed
each_comes line [] = refl
each_comes line (a ∷ []) = let one = times_said line a in omega (arith, one)
each_comes line (a ∷ b ∷ rest) =
    more_by (is_held a) line a b (disturbed rest) (disturbed (b ∷ rest)) (times_drawn line rest) (each_comes line rest) (each_comes line (b ∷ rest))
