-- What is true of each script that comes over a bad link.
--     IsQuiet, QuietIsSame      where nothing is lost, repeated or swapped, the lines are the same
--     OthersPart                a line that is no PDU line stays where it is: no PDU line passes it
--     count_of, times_of_line   how often a line comes by a draw;  how often a line is among lines
--     times_drawn, EachComes    each PDU line comes as often as was drawn for it, and each other line once; no line is
--                               changed
use Rattle.std.specs.Prelude.{◌≡◌, ℕ, ◌+◌, false, if◌then◌else◌, List, [], ◌∷◌, ◌++◌, map, bytes_eq}
use Rattle.std.specs.List.{AllByRecursion}
use Rattle.cfdp_disturb.specs.declared.draws.Copies.TheVariants.{Lost, Once, Twice}
use Rattle.cfdp_disturb.specs.Disturbing.{Copies, Drawn, disturbed, is_pdu_line}

pub record IsQuiet (a : Drawn) : Type 0 where
  pub once : a.1.copies ≡ Once
  pub in_turn : a.1.swapped ≡ false

abbrev pub QuietIsSame : Type 0
QuietIsSame = (lines : List Drawn) → AllByRecursion IsQuiet lines → disturbed lines ≡ map (λ a. a.0) lines

abbrev pub OthersPart : Type 0
OthersPart =
    (before after : List Drawn) (a : Drawn) → is_pdu_line a.0 ≡ false → disturbed (before ++ a ∷ after)
    ≡ disturbed before ++ a.0 ∷ disturbed after

abbrev pub count_of : Copies → ℕ
count_of Lost = 0
count_of Once = 1
count_of Twice = 2

abbrev pub times_of_line : List ℕ → List (List ℕ) → ℕ
times_of_line line [] = 0
times_of_line line (other ∷ lines) = (if bytes_eq line other then 1 else 0) + times_of_line line lines

-- how often a line comes by all draws
abbrev pub times_drawn : List ℕ → List Drawn → ℕ
times_drawn line [] = 0
times_drawn line (a ∷ lines) = (if bytes_eq line a.0 then (if is_pdu_line a.0 then count_of a.1.copies else 1) else 0)
    + times_drawn line lines

abbrev pub EachComes : Type 0
EachComes = (line : List ℕ) (lines : List Drawn) → times_of_line line (disturbed lines) ≡ times_drawn line lines
