-- A list that is copied index by index.
use Rattle.std.proofs.Common.{◌≡◌, ℕ, suc, ◌+◌, List, [], ◌∷◌, ◌++◌, drop, Some, slice_get, sym, ap, ◌∙◌, subst, append_assoc, arith}
use Rattle.cfdp_transactions.proofs.KeptTable.StepDone.{drop_get}

-- one more than before is taken over
pub taken_over : {X : Type 0} (taken more all : List X) (index : ℕ) (x : X) → slice_get all index ≡ Some x → more ≡ taken ++ x ∷ []
    → taken ++ drop index all ≡ all → more ++ drop (index + 1) all ≡ all
taken_over {X = X} taken more all index x at grown before =
    let next : suc index ≡ index + 1 = omega arith in
    let following : drop index all ≡ x ∷ drop (index + 1) all = subst (λ (n : ℕ). drop index all ≡ x ∷ drop n all) next (drop_get index all x at) in
    ap (λ (xs : List X). xs ++ drop (index + 1) all) grown
    ∙ append_assoc taken (x ∷ []) (drop (index + 1) all)
    ∙ ap (λ (xs : List X). taken ++ xs) (sym following)
    ∙ before
