-- What the lists in a footprint and in the leases say of their views.
--     same_test                              whether a path is one of a list, tested the other way round
--     is_exclusive-view, is_shared-view      of a footprint made of two lists
--     find-map, option_map-map, list_any-map      of grants made of live transactions
use Rattle.std.proofs.Common.{◌≡◌, refl, sym, ◌∙◌, ap, Bool, true, false, cond, ◌||◌, List, [], ◌∷◌, map}
use Rattle.std.specs.Prelude.{Option, Some, None, find}
use Rattle.std.specs.Option.{option_map}
use Rattle.std.specs.List.{list_any}
use Rattle.std.specs.FinSet as set
use Rattle.std.specs.Cmp.{eq_by_cmp_equiv}
use Rattle.cfdp_paths.specs.Paths.{Path, same_path, is_at_or_below}
use Rattle.cfdp_paths.proofs.Comparing.{path_cmp-total}
use Rattle.cfdp_leases.specs.Footprint.{Footprint, is_exclusive, is_shared}
use Rattle.cfdp_leases.specs.code.Footprint.{of_lists}
use Rattle.cfdp_leases.proofs.Sets.{any_in-from_list}

pub is_exclusive-view : (xs ys : List Path) (fp : Footprint) (p : Path) → of_lists xs ys ≡ fp → is_exclusive fp p ≡ list_any (λ held. is_at_or_below p held) xs
is_exclusive-view xs ys fp p view = ap (λ f. is_exclusive f p) (sym view) ∙ any_in-from_list (λ held. is_at_or_below p held) xs

-- the test of a path the other way round
pub same_test : (p : Path) (ys : List Path) → list_any (same_path p) ys ≡ list_any (λ y. same_path y p) ys
same_test p [] = refl
same_test p (y ∷ ys) = λ i. (eq_by_cmp_equiv path_cmp-total).symm p y i || same_test p ys i

pub is_shared-view : (xs ys : List Path) (fp : Footprint) (p : Path) → of_lists xs ys ≡ fp → is_shared fp p ≡ list_any (λ y. same_path y p) ys
is_shared-view xs ys fp p view = ap (λ f. is_shared f p) (sym view) ∙ set.contains-from_list path_cmp-total ys p ∙ same_test p ys

-- ---- grants

pub find-map : {X Y : Type 0} (f : X → Y) (test : Y → Bool) (xs : List X) → find test (map f xs) ≡ option_map f (find (λ x. test (f x)) xs)
find-map f test [] = refl
find-map f test (x ∷ xs) =
    ap (cond (test (f x)) (Some (f x))) (find-map f test xs)
    ∙ elim (test (f x)) as (λ b. cond b (Some (f x)) (option_map f (find (λ y. test (f y)) xs))
    ≡ option_map f (cond b (Some x) (find (λ y. test (f y)) xs))) [ true ↦ refl | false ↦ refl ]

pub option_map-map : {X Y Z : Type 0} (f : X → Y) (g : Y → Z) (o : Option X) → option_map g (option_map f o) ≡ option_map (λ x. g (f x)) o
option_map-map f g None = refl
option_map-map f g (Some x) = refl

pub list_any-map : {X Y : Type 0} (f : X → Y) (test : Y → Bool) (xs : List X) → list_any test (map f xs) ≡ list_any (λ x. test (f x)) xs
list_any-map f test [] = refl
list_any-map f test (x ∷ xs) = ap (λ b. test (f x) || b) (list_any-map f test xs)
