-- A path of n names below another one.
--     prefix_take     the first names of a path are above more of them
--     is_filler       the rest of a long path, put below a path
use Rattle.std.proofs.Common.{◌≡◌, ap, true, ◌&&◌, ℕ, zero, suc, ◌<◌, ◌≤◌, [], ◌∷◌, length, take, arith, length-take}
use Rattle.cfdp_paths.specs.Paths.{Path, is_at_or_below, rebased}
use Rattle.cfdp_paths.proofs.Below.{is_below-Decides, length-rebased, same_name-refl}
use Rattle.cfdp_states.specs.code.Sparse.{IsFiller}
use Rattle.cfdp_actions.proofs.Prefixes.{below_root, rebased-below}

pub prefix_take : (x : Path) (k n : ℕ) → k ≤ n → is_at_or_below (take n x) (take k x) ≡ true
prefix_take x zero n le = below_root (take n x)
prefix_take [] (suc k) n le = below_root (take n [])
prefix_take (m ∷ x) (suc k) zero le = absurd (omega arith)
prefix_take (m ∷ x) (suc k) (suc n) le = λ i. same_name-refl m i && prefix_take x k n (omega arith) i

pub is_filler : (x p : Path) (n : ℕ) → length x ≡ 8 → length p < n → n ≤ 8 → IsFiller p n (rebased (take (length p) x) p (take n x))
is_filler x p n long below within =
    let d = rebased (take (length p) x) p (take n x) in
    let l : length d ≡ n = omega (arith, length-rebased (take (length p) x) p (take n x), length-take (length p) x, length-take n x) in (
      (is_below-Decides d p).1 (
        rebased-below (take (length p) x) p (take n x),
        λ e. let same : length d ≡ length p = ap length e in
            omega (arith, same, l, below),
      ),
      l,
    )
