-- What the answers of a store say of what exists, and how blocks and depths are counted.
--     there_by, absent_by, there_unless, nothing_by    what a test of the answer of `kind` says of the node
--     blocks_of-small, blocks_of-twice, blocks_of-fits, blocks_of-mono, blocks_of_both, blocks_of_one    the blocks of one size, and of two together
--     sum_is, too_deep          what `is_too_deep` adds up, and that it says whether a tree would be too deep
use Rattle.std.proofs.Common.{◌≡◌, ℕ, ◌+◌, ◌-◌, ◌*◌, ◌≤◌, Bool, true, false, cond, List, [], ◌∷◌, ◌++◌, Option, Some, None, is_some, not, length, drop, max, nat_lt, ◌||◌, length-append, length-drop, refl, sym, ap, ◌∙◌, arith, true≢false}
use Rattle.std.proofs.lemmas.Bool.{false≢true}
use Rattle.std.proofs.lemmas.Bool.Decides.{nat_tests}
use Rattle.std.specs.FinMap.Entries.{find}
use Rattle.cfdp_paths.specs.Paths.{Path, path_cmp, same_path}
use Rattle.cfdp_paths.specs.PathMaps.{is_too_deep}
use Rattle.cfdp_actions.specs.Filestore.{Node, blocks_of, deepest_of}
use Rattle.cfdp_actions.specs.Store.{kind_in}
use Rattle.cfdp_actions.specs.declared.kind.Kind.{Kind}
use Rattle.cfdp_actions.proofs.Order.{same_path-true}

-- ---- kinds

-- b is whether there is an answer
pub there_by : (o : Option Node) (k : Option Kind) (b : Bool) → k ≡ kind_in o → b ≡ is_some k → b ≡ true → is_some o ≡ true
there_by None k b e i h = cc
there_by (Some node) k b e i h = refl

pub absent_by : (o : Option Node) (k : Option Kind) (b : Bool) → k ≡ kind_in o → b ≡ is_some k → b ≡ false → o ≡ None
absent_by None k b e i h = refl
absent_by (Some node) k b e i h = cc

pub nothing_by : (o : Option Node) (k : Option Kind) (b : Bool) → k ≡ kind_in o → is_some k ≡ not b → b ≡ true → o ≡ None
nothing_by None k b e i h = refl
nothing_by (Some node) k b e i h = absurd (false≢true (sym (sym (ap is_some e) ∙ i ∙ ap not h)))

pub there_unless : (o : Option Node) (k : Option Kind) (b : Bool) → k ≡ kind_in o → is_some k ≡ not b → b ≡ false → is_some o ≡ true
there_unless None k b e i h = absurd (false≢true (sym (ap is_some e) ∙ i ∙ ap not h))
there_unless (Some node) k b e i h = refl

-- ---- blocks

pub blocks_of-small : (n : ℕ) → n ≤ 7864320 → blocks_of n ≤ 65536
unfolding blocks_of
blocks_of-small n h = omega arith

pub blocks_of-twice : (n : ℕ) → n ≤ 15728640 → blocks_of n ≤ 131072
unfolding blocks_of
blocks_of-twice n h = omega arith

-- octets fit into their blocks
pub blocks_of-fits : (n : ℕ) → n ≤ 120 * blocks_of n
unfolding blocks_of
blocks_of-fits n = omega arith

-- more octets take no fewer blocks
pub blocks_of-mono : (n m : ℕ) → n ≤ m → blocks_of n ≤ blocks_of m
unfolding blocks_of
blocks_of-mono n m h = omega arith

-- b is the blocks of two sizes together, or of one
pub blocks_of_both : (b n m x y : ℕ) → b ≡ blocks_of (n + m) → n ≡ x → m ≡ y → b ≡ blocks_of (x + y)
blocks_of_both b n m x y e i j = e ∙ ap (λ k. blocks_of (k + m)) i ∙ ap (λ k. blocks_of (x + k)) j

pub blocks_of_one : (b n x : ℕ) → b ≡ blocks_of n → n ≡ x → b ≡ blocks_of x
blocks_of_one b n x e i = e ∙ ap blocks_of i

-- ---- depths

length-rebased : (p q x : Path) → length (q ++ drop (length p) x) ≡ length q + (length x - length p)
length-rebased p q x = simp (length-append, length-drop)

-- a test of the greatest is a test of each
deeper : (c a b d : ℕ) → nat_lt 8 (c + (max a b - d)) ≡ (nat_lt 8 (c + (a - d)) || nat_lt 8 (c + (b - d)))
deeper c a b d = grind (arith, nat_tests)

-- what `is_too_deep` adds up
pub sum_is : (to from deepest far b x y : ℕ) → to ≡ x → deepest ≡ far → from ≡ y → b ≡ deepest - from → to + b ≡ x + (far - y)
sum_is to from deepest far b x y e f g h = omega arith

-- whether a tree would be too deep, by its longest path
pub too_deep : (p q : Path) (es : List (Path × Node)) → length q ≤ 8 → is_too_deep p q es ≡ nat_lt 8 (length q + (deepest_of es - length p))
too_deep p q [] h = grind (arith, nat_tests)
too_deep p q (e ∷ es) h =
    ap (λ n. nat_lt 8 n || is_too_deep p q es) (length-rebased p q e.0) ∙ ap (λ b. nat_lt 8 (length q + (length e.0 - length p)) || b) (too_deep p q es h)
    ∙ sym (deeper (length q) (length e.0) (deepest_of es) (length p))

pub max_three : (a b c : ℕ) → max a (max b c) ≡ max (max a b) c
max_three a b c = omega arith

-- no entry has more names than the deepest
pub deepest-most : (es : List (Path × Node)) (x : Path) → is_some (find path_cmp x es) ≡ true → length x ≤ deepest_of es
deepest-most [] x h = absurd (true≢false (sym h))
deepest-most (e ∷ es) x h =
    elim (same_path x e.0) as (λ b. same_path x e.0 ≡ b → is_some (cond b (Some e.1) (find path_cmp x es)) ≡ true → length x ≤ deepest_of (e ∷ es)) [
      | true ↦ λ same h. let long : length x ≡ length e.0 = ap length (same_path-true x e.0 same) in omega (arith, long)
      | false ↦ λ other h. let rest = deepest-most es x h in omega (arith, rest)
    ] refl h
