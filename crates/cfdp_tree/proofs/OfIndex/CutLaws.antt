-- A list of the index without one of its nodes.
--     without_first, without_other     the list's first node is the one, or is another one
--     without_all, without_has     without a node that is not in it;  the other nodes are there still
--     length_without     it is shorter by one
--     links_after        the node that a list's node names as the next one is in it too, one index later
--     in_list, in_nodes  a node that is not the last one of a list is in it
--     cut_chain          where the node before it names the node after it, the list is without it
use Rattle.std.proofs.Common.{◌≡◌, ◌≢◌, ℕ, suc, zero, ◌+◌, ◌-◌, List, [], ◌∷◌, cond, length, refl, sym, ap, ◌∙◌, subst, inl, inr, arith}
use Rattle.std.proofs.lemmas.Bool.{cases_eq, eq-eqb, ne_eqb}
use Rattle.std.proofs.lemmas.List.Elements.{All-contains, All-tail}
use Rattle.std.specs.Prelude.{All, AllPairs, Contains, not}
use Rattle.cfdp_arena.specs.Arena.{Blocks}
use Rattle.cfdp_paths.proofs.Below.{Contains-cons}
use Rattle.cfdp_tree.specs.declared.index.ListHead.{ListHead}
use Rattle.cfdp_tree.specs.code.Tree.{IsNode, node_fields_at}
use Rattle.cfdp_tree.specs.code.Index.{index_chain, list_of, without_node}
use Rattle.cfdp_tree.proofs.OfIndex.IndexLaws.{chain_some, has_longer, own_first, rest_has, has_first, once_first, kept_chain}
use Rattle.cfdp_arena.proofs.GivenChains.{rest_once}

module _ (b : ℕ) where
  pub without_other : (x : ℕ) (xs : List ℕ) → x ≢ b → without_node b (x ∷ xs) ≡ x ∷ without_node b xs
  without_other x xs other = ap (λ is. cond (not is) (x ∷ without_node b xs) (without_node b xs)) (ne_eqb x b other)

  pub without_all : (xs : List ℕ) → All (λ c. b ≢ c) xs → without_node b xs ≡ xs
  without_all [] apart = refl
  without_all (x ∷ xs) apart =
      let P : ℕ → Type 0 = λ c. b ≢ c in
      without_other x xs (λ e. own_first P x xs apart (sym e)) ∙ ap (λ rest. x ∷ rest) (without_all xs (All-tail P x xs apart))

  pub without_first : (xs : List ℕ) → All (λ c. b ≢ c) xs → without_node b (b ∷ xs) ≡ xs
  without_first xs apart = ap (λ is. cond (not is) (b ∷ without_node b xs) (without_node b xs)) (eq-eqb b b refl) ∙ without_all xs apart

  pub without_has : (xs : List ℕ) (c : ℕ) → c ≢ b → Contains xs c → Contains (without_node b xs) c
  without_has [] c other has = absurd (omega (arith, has.1))
  without_has (x ∷ xs) c other has = elim (cases_eq x b) [
    | inl e ↦ subst (λ ys. Contains ys c) (sym (ap (λ is. cond (not is) (x ∷ without_node b xs) (without_node b xs)) (eq-eqb x b e)))
        (without_has xs c other (rest_has x xs c has (λ f. other (sym f ∙ e))))
    | inr differ ↦ subst (λ ys. Contains ys c) (sym (without_other x xs differ)) (elim (cases_eq x c) [
      | inl e ↦ subst (Contains (x ∷ without_node b xs)) e (has_first x (without_node b xs))
      | inr apart ↦ Contains-cons (without_node b xs) x c (without_has xs c other (rest_has x xs c has apart))
    ])
  ]

  pub length_without : (xs : List ℕ) → AllPairs (λ x y. x ≢ y) xs → Contains xs b → length (without_node b xs) + 1 ≡ length xs
  length_without [] once has = absurd (omega (arith, has.1))
  length_without (x ∷ xs) once has = elim (cases_eq x b) [
    | inl e ↦ (
        let apart : All (λ c. b ≢ c) xs = subst (λ y. All (λ c. y ≢ c) xs) e (once_first x xs once) in
        omega (arith, ap (λ (ys : List ℕ). length ys) (ap (λ y. without_node b (y ∷ xs)) e ∙ without_first xs apart)))
    | inr other ↦ omega (
      arith,
      ap (λ (ys : List ℕ). length ys) (without_other x xs other),
      length_without xs (rest_once x xs once) (rest_has x xs b has other),
    )
  ]

-- p names b as the next one
module _ (old : Blocks) (p b : ℕ) (before : (node_fields_at old p).same_head ≡ b) where
  pub links_after : (n x : ℕ) → Contains (index_chain old n x) p → Contains (index_chain old n (node_fields_at old x).same_head) b
  links_after zero x has = absurd (omega (arith, has.1))
  links_after (suc n) x has =
      let y = (node_fields_at old x).same_head in
      elim (cases_eq x p) [
        | inl e ↦ subst (Contains (index_chain old (suc n) y)) (ap (λ z. (node_fields_at old z).same_head) e ∙ before)
            (has_first y (index_chain old n (node_fields_at old y).same_head))
        | inr other ↦ Contains-cons (index_chain old n (node_fields_at old y).same_head) y b (links_after n y (rest_has x (index_chain old n y) p has other))
      ]

  -- and then the node after b
  module _ (new : Blocks) (others : (c : ℕ) → p ≢ c → (node_fields_at new c).same_head ≡ (node_fields_at old c).same_head)
      (link : (node_fields_at new p).same_head ≡ (node_fields_at old b).same_head) where
    cut_here : (m x : ℕ) → x ≡ p → AllPairs (λ c d. c ≢ d) (index_chain old (suc (suc m)) x) → index_chain new (suc m) x ≡ without_node b
        (index_chain old (suc (suc m)) x)
    cut_here m x e once =
        let y = (node_fields_at old x).same_head in
        let z = (node_fields_at old b).same_head in
        let y_is : y ≡ b = ap (λ c. (node_fields_at old c).same_head) e ∙ before in
        let rest = index_chain old m (node_fields_at old y).same_head in
        let rest_is : rest ≡ index_chain old m z = ap (λ c. index_chain old m (node_fields_at old c).same_head) y_is in
        let first = once_first x (y ∷ rest) once in
        let second = once_first y rest (rest_once x (y ∷ rest) once) in
        let P : ℕ → Type 0 = λ c. p ≢ c in
        let B : ℕ → Type 0 = λ c. b ≢ c in
        let p_apart : All P (index_chain old m z) = subst (All P) rest_is (subst (λ q. All (λ c. q ≢ c) rest) e (All-tail (λ c. x ≢ c) y rest first)) in
        let b_apart : All B rest = subst (λ q. All (λ c. q ≢ c) rest) y_is second in
        let x_other : x ≢ b = (λ same. own_first (λ c. x ≢ c) y rest first (same ∙ sym y_is)) in
        let cut : without_node b (y ∷ rest) ≡ rest = ap (λ c. without_node b (c ∷ rest)) y_is ∙ without_first b rest b_apart in
        ap (λ c. x ∷ index_chain new m c) (ap (λ c. (node_fields_at new c).same_head) e ∙ link)
        ∙ ap (λ xs. x ∷ xs) (kept_chain old new p others m z p_apart ∙ sym rest_is ∙ sym cut)
        ∙ sym (without_other b x (y ∷ rest) x_other)

    pub cut_chain : (n x : ℕ) → AllPairs (λ c d. c ≢ d) (index_chain old (suc n) x) → Contains (index_chain old n x) p → index_chain new n x ≡ without_node b
        (index_chain old (suc n) x)
    cut_chain zero x once has = absurd (omega (arith, has.1))
    cut_chain (suc m) x once has = elim (cases_eq x p) [
      | inl e ↦ cut_here m x e once
      | inr other ↦ (
          let y = (node_fields_at old x).same_head in
          let list = index_chain old (suc m) y in
          let following = rest_has x (index_chain old m y) p has other in
          let first = once_first x list once in
          let x_other : x ≢ b = All-contains (λ c. x ≢ c) list b first (links_after (suc m) x has) in
          ap (λ c. x ∷ index_chain new m c) (others x (λ e. other (sym e)))
          ∙ ap (λ xs. x ∷ xs) (cut_chain m y (rest_once x list once) following)
          ∙ sym (without_other b x list x_other))
    ]

-- a node that is not the last one of a list is in it
module _ (nodes : Blocks) (head : ListHead) (p : ℕ) (there : Contains (index_chain nodes (head.listed - 1) head.first) p) where
  pub in_list : Contains (list_of nodes head) p
  in_list =
      let some = chain_some nodes (head.listed - 1) head.first p there in
      let all : suc (head.listed - 1) ≡ head.listed = omega arith in
      subst (λ n. Contains (index_chain nodes n head.first) p) all (has_longer nodes (head.listed - 1) head.first p there)

  pub in_nodes : All (IsNode nodes) (list_of nodes head) → IsNode nodes p
  in_nodes all = All-contains (IsNode nodes) (list_of nodes head) p all in_list
