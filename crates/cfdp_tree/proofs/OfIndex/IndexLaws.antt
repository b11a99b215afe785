-- The lists of the index.
--     chain_more       a list's first node, and those after it
--     own_first, rest_has                of all of its nodes, of the first one, and of those after it
--     has_first, has_longer, chain_some     a node that is in it
--     chain_one                a list of one node
--     once_first               no node is in it twice
--     kept_links               a list of nodes whose links have stayed
--     kept_chain               a list without the node whose link has changed
use Rattle.std.proofs.Common.{◌≡◌, ◌≢◌, ℕ, suc, zero, ◌<◌, List, [], ◌∷◌, length, get_or, refl, ap, ◌∙◌, subst, inl, inr, arith}
use Rattle.std.proofs.lemmas.Bool.{cases_eq}
use Rattle.std.specs.Prelude.{All, AllPairs, Contains}
use Rattle.std.proofs.lemmas.List.Elements.{All-tail}
use Rattle.cfdp_arena.specs.Arena.{Blocks}
use Rattle.cfdp_paths.proofs.Below.{Contains-cons}
use Rattle.cfdp_tree.specs.code.Tree.{node_fields_at}
use Rattle.cfdp_tree.specs.code.Index.{index_chain}
use Rattle.cfdp_tree.specs.code.Lists as lists

pub chain_more : (nodes : Blocks) (n m b : ℕ) → n ≡ suc m → index_chain nodes n b ≡ b ∷ index_chain nodes m (node_fields_at nodes b).same_head
chain_more nodes n m b e = ap (λ k. index_chain nodes k b) e

pub own_first : (P : ℕ → Type 0) (b : ℕ) (rest : List ℕ) → All P (b ∷ rest) → P b
own_first P b rest all = all 0 b (omega arith)

pub rest_has : (b : ℕ) (rest : List ℕ) (c : ℕ) → Contains (b ∷ rest) c → b ≢ c → Contains rest c
rest_has b rest c has other = at_index has.0 has.1 has.2
  where
    at_index : (k : ℕ) → k < length (b ∷ rest) → get_or (b ∷ rest) k c ≡ c → Contains rest c
    at_index zero within e = absurd (other e)
    at_index (suc k) within e = (k, omega arith, e)

pub has_first : (b : ℕ) (rest : List ℕ) → Contains (b ∷ rest) b
has_first b rest = (0, omega arith, refl)

pub chain_some : (nodes : Blocks) (n b c : ℕ) → Contains (index_chain nodes n b) c → 0 < n
chain_some nodes zero b c has = omega (arith, has.1)
chain_some nodes (suc n) b c has = omega arith

pub chain_one : (nodes : Blocks) (b c : ℕ) → Contains (index_chain nodes 1 b) c → b ≡ c
chain_one nodes b c has = elim (cases_eq b c) [
  | inl e ↦ e
  | inr other ↦ absurd (omega (arith, (rest_has b [] c has other).1))
]

pub has_longer : (nodes : Blocks) (n b c : ℕ) → Contains (index_chain nodes n b) c → Contains (index_chain nodes (suc n) b) c
has_longer nodes zero b c has = absurd (omega (arith, has.1))
has_longer nodes (suc n) b c has =
    let next = (node_fields_at nodes b).same_head in
    elim (cases_eq b c) [
      | inl e ↦ subst (Contains (b ∷ index_chain nodes (suc n) next)) e (has_first b (index_chain nodes (suc n) next))
      | inr other ↦ Contains-cons (index_chain nodes (suc n) next) b c (has_longer nodes n next c (rest_has b (index_chain nodes n next) c has other))
    ]

-- of lists in which no node is twice
pub once_first : (b : ℕ) (rest : List ℕ) → AllPairs (λ x y. x ≢ y) (b ∷ rest) → All (λ c. b ≢ c) rest
once_first b rest once k d within = once 0 (suc k) d (omega arith) (omega arith)

-- P is of the nodes whose links have stayed
module _ (P : ℕ → Type 0) (old new : ℕ → ℕ) (same : (c : ℕ) → P c → new c ≡ old c) where
  pub kept_links : (n b : ℕ) → All P (lists.chain old n b) → lists.chain new n b ≡ lists.chain old n b
  kept_links zero b own = refl
  kept_links (suc n) b own =
      let rest = lists.chain old n (old b) in
      ap (λ c. b ∷ lists.chain new n c) (same b (own_first P b rest own))
      ∙ ap (λ xs. b ∷ xs) (kept_links n (old b) (All-tail P b rest own))

-- the link of one node has changed
module _ (old new : Blocks) (b : ℕ) (others : (c : ℕ) → b ≢ c → (node_fields_at new c).same_head ≡ (node_fields_at old c).same_head) where
  pub kept_chain : (n x : ℕ) → All (λ c. b ≢ c) (index_chain old n x) → index_chain new n x ≡ index_chain old n x
  kept_chain n x apart = kept_links (λ c. b ≢ c) (λ c. (node_fields_at old c).same_head) (λ c. (node_fields_at new c).same_head) others n x apart
