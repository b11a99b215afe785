-- A rename of p to q: the paths that move, and what exists where after it.
--     not_both                            nothing is both true and false
--     at-moved, below-moved               what is at or below a path that moves is so after it
--     length-moved                        the names of a path that moves
--     moved-gone, moved-else              what is at or below p, and elsewhere, but not at or below q
use Rattle.std.proofs.Common.{◌≡◌, sym, ◌∙◌, ap, Bool, true, false, cond, is_some, None, ◌+◌, [], ◌∷◌, length, drop, ◌++◌, ◌&&◌, arith, true≢false}
use Rattle.std.proofs.lemmas.Bool.{and_parts}
use Rattle.cfdp_paths.specs.Paths.{Path, same_name, is_at_or_below, is_below, rebased}
use Rattle.cfdp_paths.proofs.Below.{at_or_below-trans, is_below-Decides, length-rebased, length-at_or_below, same_name-refl}
use Rattle.cfdp_actions.specs.Filestore.{Filestore, node_at}
use Rattle.cfdp_actions.proofs.Prefixes.{rebased_back}
use Rattle.cfdp_actions.proofs.Moves.{moved}
use Rattle.cfdp_states.proofs.Sketched.{moved_where}
use Rattle.cfdp_states.proofs.Entries.{below-at}

pub not_both : (b : Bool) → b ≡ true → b ≡ false → {A : Type 0} → A
not_both b t f = absurd (true≢false (sym t ∙ f))

-- ---- paths that move

under-drop : (x c p : Path) → is_at_or_below x c ≡ true → is_at_or_below c p ≡ true → is_at_or_below (drop (length p) x) (drop (length p) c) ≡ true
under-drop x c [] h k = h
under-drop x [] (n ∷ p) h k = absurd (true≢false (sym k))
under-drop [] (m ∷ c) (n ∷ p) h k = absurd (true≢false (sym h))
under-drop (l ∷ x) (m ∷ c) (n ∷ p) h k = under-drop x c p (and_parts (same_name l m) (is_at_or_below x c) h).1
    (and_parts (same_name m n) (is_at_or_below c p) k).1

under-front : (q x c : Path) → is_at_or_below x c ≡ true → is_at_or_below (q ++ x) (q ++ c) ≡ true
under-front [] x c h = h
under-front (n ∷ q) x c h = λ i. same_name-refl n i && under-front q x c h i

-- what is below a directory that moves is below where it moves to
pub at-moved : (p q x c : Path) → is_at_or_below x c ≡ true → is_at_or_below c p ≡ true → is_at_or_below (rebased p q x) (rebased p q c) ≡ true
at-moved p q x c h k = under-front q (drop (length p) x) (drop (length p) c) (under-drop x c p h k)

pub below-moved : (p q x c : Path) → is_below x c ≡ true → is_at_or_below c p ≡ true → is_below (rebased p q x) (rebased p q c) ≡ true
below-moved p q x c h k =
    let at = below-at x c h in
    (is_below-Decides (rebased p q x) (rebased p q c)).1 (
      at-moved p q x c at k,
      λ e.
          ((is_below-Decides x c).0 h).1 (sym (rebased_back p q x (at_or_below-trans x c p at k)) ∙ ap (rebased q p) e ∙ rebased_back p q c k),
    )

pub length-moved : (p q x : Path) → is_at_or_below x p ≡ true → length (rebased p q x) + length p ≡ length x + length q
length-moved p q x at = omega (arith, length-rebased p q x, length-at_or_below x p at)

-- ---- what is not at or below q

module _ (F : Filestore) (p q : Path) where
  pub moved-gone : (x : Path) → is_at_or_below x q ≡ false → is_at_or_below x p ≡ true → node_at (moved F p q) x ≡ None
  moved-gone x apart at = moved_where F p q x ∙ (λ i. cond (apart i) (cond (is_some (node_at F (rebased q p x))) (node_at F (rebased q p x))
      (cond (is_at_or_below x p) None (node_at F x))) (cond (at i) None (node_at F x)))

  pub moved-else : (x : Path) → is_at_or_below x q ≡ false → is_at_or_below x p ≡ false → node_at (moved F p q) x ≡ node_at F x
  moved-else x apart other = moved_where F p q x ∙ (λ i. cond (apart i) (cond (is_some (node_at F (rebased q p x))) (node_at F (rebased q p x))
      (cond (is_at_or_below x p) None (node_at F x))) (cond (other i) None (node_at F x)))
