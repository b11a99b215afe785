-- Paths that are in all of the entries of an array.
--     present_at       what is in an entry is the path of that number
--     same_present     two arrays have the same in all entries exactly where they have the same paths
use Rattle.std.proofs.Common.{◌≡◌, ℕ, zero, suc, ◌≤◌, ◌<◌, Bool, ◌&&◌, List, [], ◌∷◌, length, Option, Some, None, refl, arith, slice_index_or}
use Rattle.std.specs.Cmp.Lexicographic.{pointwise, slice_cmp}
use Rattle.std.specs.declared.cmp.Ordering.{Ordering}
use Rattle.std.specs.declared.cmp.Ordering.TheVariants.{Less, Equal, Greater}
use Rattle.std.specs.List.{slice_get}
use Rattle.std.specs.Option.{option_eq}
use Rattle.std.specs.Ordering.{is_eq, ordering_then}
use Rattle.cfdp_paths.specs.Paths.{Path, path_cmp, same_path}
use Rattle.cfdp_actions.specs.Prefixes.{same_paths}
use Rattle.cfdp_actions.specs.code.Prefixes.{present}

few_present : (slots : List (Option Path)) → length (present slots) ≤ length slots
few_present [] = omega arith
few_present (None ∷ slots) = let rest = few_present slots in omega (arith, rest)
few_present (Some path ∷ slots) = let rest = few_present slots in omega (arith, rest)

pub present_at : (slots : List (Option Path)) (k : ℕ) (d : Option Path) → length (present slots) ≡ length slots → k < length slots
    → slice_index_or slots k d ≡ slice_get (present slots) k
present_at [] k d e h = absurd (omega arith)
present_at (None ∷ slots) k d e h = absurd (omega (arith, few_present slots, e))
present_at (Some path ∷ slots) zero d e h = refl
present_at (Some path ∷ slots) (suc k) d e h = present_at slots k d (omega (arith, e)) (omega (arith, h))

then_eq : (o rest : Ordering) (b : Bool) → b ≡ is_eq rest → (is_eq o && b) ≡ is_eq (ordering_then o rest)
then_eq Less rest b e = refl
then_eq Equal rest b e = e
then_eq Greater rest b e = refl

pub same_present : (xs ys : List (Option Path)) → length (present xs) ≡ length xs → length (present ys) ≡ length ys
    → pointwise (option_eq same_path) xs ys ≡ same_paths (present xs) (present ys)
same_present [] [] d e = refl
same_present (None ∷ xs) ys d e = absurd (omega (arith, few_present xs, d))
same_present [] (None ∷ ys) d e = absurd (omega (arith, few_present ys, e))
same_present (Some p ∷ xs) (None ∷ ys) d e = absurd (omega (arith, few_present ys, e))
same_present [] (Some q ∷ ys) d e = refl
same_present (Some p ∷ xs) [] d e = refl
same_present (Some p ∷ xs) (Some q ∷ ys) d e =
    then_eq (path_cmp p q) (slice_cmp path_cmp (present xs) (present ys)) (pointwise (option_eq same_path) xs ys)
    (same_present xs ys (omega (arith, d)) (omega (arith, e)))
