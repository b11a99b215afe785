-- Comparisons of paths.
--     same_name-Decides, same_path-Decides      the tests say whether two names, or two paths, are equal
--     path_cmp-one                              paths of one name compare as their names
use Rattle.std.proofs.Common.{◌≡◌, ◌∙◌, [], ◌∷◌, ap, Bool, nat_eq, refl, subst}
use Rattle.std.specs.Bool.{Decides}
use Rattle.std.specs.Cmp.{IsTotalOrder}
use Rattle.std.specs.Cmp.Lexicographic.{slice_cmp, pointwise, lists_ties, pointwise_decides, bytes_decides, texts_ties, lists_total, nat_list_cmp_total}
use Rattle.std.specs.Ordering.{nat_cmp, ordering_then}
use Rattle.std.specs.declared.cmp.Ordering.{Ordering}
use Rattle.std.specs.declared.cmp.Ordering.TheVariants.{Less, Equal, Greater}
use Rattle.cfdp_paths.specs.Paths.{Name, Path, path_cmp, same_name, same_path}

pub paths_ties : (p q : Path) → pointwise (pointwise nat_eq) p q ≡ same_path p q
paths_ties = lists_ties (slice_cmp nat_cmp) texts_ties

pub same_name-Decides : (m n : Name) → Decides (same_name m n) (m ≡ n)
same_name-Decides m n = subst (λ b. Decides b (m ≡ n)) (texts_ties m n) (bytes_decides m n)

pub same_path-Decides : (p q : Path) → Decides (same_path p q) (p ≡ q)
same_path-Decides p q = subst (λ b. Decides b (p ≡ q)) (paths_ties p q) (pointwise_decides bytes_decides p q)

-- what `==` of two slices says of names
pub same_name-compared : (r : Bool) (m n n' : Name) → r ≡ pointwise nat_eq m n → n ≡ n' → r ≡ same_name m n'
same_name-compared r m n n' e same = e ∙ ap (pointwise nat_eq m) same ∙ texts_ties m n'

-- the order of paths is a total order
pub path_cmp-total : IsTotalOrder path_cmp
path_cmp-total = lists_total nat_list_cmp_total

then_equal : (o : Ordering) → ordering_then o Equal ≡ o
then_equal Less = refl
then_equal Equal = refl
then_equal Greater = refl

pub path_cmp-one : (m n : Name) → path_cmp (m ∷ []) (n ∷ []) ≡ slice_cmp nat_cmp m n
path_cmp-one m n = then_equal (slice_cmp nat_cmp m n)
