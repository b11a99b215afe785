-- Prefixes of paths.
--     rebased-below, rebased_back, same_rebased    p/r to q/r and back
--     length-parent
use Rattle.std.proofs.Common.{◌≡◌, refl, sym, ◌∙◌, ap, true, suc, [], ◌∷◌, ◌++◌, length, drop}
use Rattle.cfdp_paths.specs.Paths.{Name, Path, same_path, is_at_or_below, parent, rebased}
use Rattle.cfdp_actions.proofs.Order.{same_path-true, same_path-is}
use Rattle.cfdp_actions.proofs.Truths.{by_truth}
use Rattle.cfdp_paths.proofs.Below.{at_or_below-append, append_from_at_or_below}

pub below_root : (p : Path) → is_at_or_below p [] ≡ true
below_root [] = refl
below_root (n ∷ p) = refl

pub drop_append : (p r : Path) → drop (length p) (p ++ r) ≡ r
drop_append [] r = refl
drop_append (n ∷ p) r = drop_append p r

-- q/r is at or below q
pub rebased-below : (p q x : Path) → is_at_or_below (rebased p q x) q ≡ true
rebased-below p q x = at_or_below-append q (drop (length p) x)

-- and comes back to p/r
pub rebased_back : (p q x : Path) → is_at_or_below x p ≡ true → rebased q p (rebased p q x) ≡ x
rebased_back p q x h = ap (λ r. p ++ r) (drop_append q (drop (length p) x)) ∙ sym (append_from_at_or_below x p h)

-- so two paths tie exactly where they do once they are moved
pub same_rebased : (p q x y : Path) → is_at_or_below x q ≡ true → is_at_or_below y p ≡ true → same_path x (rebased p q y) ≡ same_path (rebased q p x) y
same_rebased p q x y below_x below_y = by_truth (same_path x (rebased p q y)) (same_path (rebased q p x) y)
    (λ e. same_path-is _ _ (ap (rebased q p) (same_path-true x (rebased p q y) e) ∙ rebased_back p q y below_y))
    (λ e. same_path-is _ _ (sym (rebased_back q p x below_x) ∙ ap (rebased p q) (same_path-true (rebased q p x) y e)))

pub length-parent : (n : Name) (p : Path) → length (parent (n ∷ p)) ≡ length p
length-parent n [] = refl
length-parent n (m ∷ p) = ap suc (length-parent m p)
