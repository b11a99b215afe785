-- What is below a path, but for some of its children.
--     below_longer              what is below a path has more names
--     any_beginning             whether the first names of a path are one of some paths
--     beside_is                 whether a path below another one is beside others
use Rattle.std.proofs.Common.{◌≡◌, ◌≢◌, ℕ, ◌≤◌, ◌||◌, ◌&&◌, ◌==◌, ◌+◌, Bool, true, not, suc, List, [], ◌∷◌, length, take, drop, refl, sym, ap, ◌∙◌, arith, length-append, length-take, ◌++◌}
use Rattle.std.specs.List.{list_any}
use Rattle.std.proofs.lemmas.Bool.Decides.{Decides-and, Decides-eqb, same_from_decides}
use Rattle.std.proofs.lemmas.List.{take_at, take-append-drop, append-nil}
use Rattle.cfdp_paths.specs.Paths.{Path, same_path, is_at_or_below, is_below}
use Rattle.cfdp_actions.specs.Filestore.{is_beside}
use Rattle.cfdp_paths.proofs.Below.{is_below-Decides, append_from_at_or_below, at_or_below_from_append}
use Rattle.cfdp_paths.proofs.Comparing.{same_path-Decides}

begins : (p q : Path) (n : ℕ) → n ≤ length p → ((length q == n) && is_at_or_below p q) ≡ same_path (take n p) q
begins p q n few = same_from_decides ((length q == n) && is_at_or_below p q) (same_path (take n p) q)
    (Decides-and (length q == n) (is_at_or_below p q) (Decides-eqb (length q) n) ((λ e. e), (λ e. e)))
    (let test = same_path-Decides (take n p) q in ((λ e. there (test.0 e)), (λ has. test.1 (same has.0 has.1))))
  where
    there : take n p ≡ q → (length q ≡ n) × (is_at_or_below p q ≡ true)
    there e = (
      omega (arith, few, length-take n p, ap (λ (x : Path). length x) e),
      at_or_below_from_append p q (drop n p) (sym (take-append-drop n p) ∙ ap (λ x. x ++ drop n p) e),
    )

    same : length q ≡ n → is_at_or_below p q ≡ true → take n p ≡ q
    same long below = ap (take n) (append_from_at_or_below p q below) ∙ take_at q (drop (length q) p) n long

pub below_longer : (q p : Path) → is_below q p ≡ true → length p + 1 ≤ length q
below_longer q p below =
    let parts = (is_below-Decides q p).0 below in let is = append_from_at_or_below q p parts.0 in
    by_rest (drop (length p) q) is parts.1
  where
    by_rest : (rest : Path) → q ≡ p ++ rest → q ≢ p → length p + 1 ≤ length q
    by_rest [] is other = absurd (other (is ∙ append-nil p))
    by_rest (n ∷ rest) is other = omega (arith, ap (λ (x : Path). length x) is, length-append p (n ∷ rest))

pub any_beginning : (p : Path) (n : ℕ) → n ≤ length p → (paths : List Path) → list_any (λ q. (length q == n) && is_at_or_below p q) paths
    ≡ list_any (same_path (take n p)) paths
any_beginning p n few [] = refl
any_beginning p n few (q ∷ paths) = (λ k. begins p q n few k || any_beginning p n few paths k)

pub beside_is : (p q : Path) (others : List Path) (n : ℕ) (found : Bool) → n ≡ length p → is_below q p ≡ true →
    found ≡ list_any (λ x. (length x == n + 1) && is_at_or_below q x) others → not found ≡ is_beside others p q
beside_is p q others n found n_is below e =
    let more : n + 1 ≡ suc (length p) = omega (arith, n_is) in
    ap not (e ∙ any_beginning q (n + 1) (omega (arith, n_is, below_longer q p below)) others ∙ ap (λ k. list_any (same_path (take k q)) others) more)
    ∙ sym (ap (λ b. b && not (list_any (same_path (take (suc (length p)) q)) others)) below)
