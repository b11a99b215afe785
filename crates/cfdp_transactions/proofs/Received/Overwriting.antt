-- What is where, once a piece of a list is written over.
use Rattle.std.proofs.Common.{◌≡◌, ℕ, ◌+◌, ◌-◌, ◌≤◌, ◌<◌, List, ◌++◌, length, take, drop, get_or, ap, sym, ◌∙◌, arith, length-append, length-drop}
use Rattle.std.proofs.lemmas.List.{get_or_append_left, get_or-append-add, get_or-take, get_or-drop, length-take-le}
use Rattle.cfdp_actions.specs.Store.{overwritten}

module _ (ys : List ℕ) (a : ℕ) (p : List ℕ) (fits : a + length p ≤ length ys) where
  front : length (take a ys) ≡ a
  front = length-take-le a ys (omega (arith, fits))

  pub overwritten-length : length (overwritten ys a p) ≡ length ys
  overwritten-length = omega (
    arith,
    length-append (take a ys ++ p) (drop (a + length p) ys),
    length-append (take a ys) p,
    front,
    length-drop (a + length p) ys,
    fits,
  )

  pub overwritten-before : (i : ℕ) → i < a → get_or (overwritten ys a p) i 0 ≡ get_or ys i 0
  overwritten-before i h =
      get_or_append_left (take a ys ++ p) (drop (a + length p) ys) 0 i (omega (arith, length-append (take a ys) p, front))
      ∙ get_or_append_left (take a ys) p 0 i (omega (arith, front)) ∙ get_or-take a ys i 0 h

  pub overwritten-inside : (j : ℕ) → j < length p → get_or (overwritten ys a p) (a + j) 0 ≡ get_or p j 0
  overwritten-inside j h =
      get_or_append_left (take a ys ++ p) (drop (a + length p) ys) 0 (a + j) (omega (arith, length-append (take a ys) p, front))
      ∙ ap (λ (k : ℕ). get_or (take a ys ++ p) (k + j) 0) (sym front) ∙ get_or-append-add (take a ys) p j 0

  pub overwritten-following : (i : ℕ) → a + length p ≤ i → get_or (overwritten ys a p) i 0 ≡ get_or ys i 0
  overwritten-following i h =
      let whole : length (take a ys ++ p) ≡ a + length p = omega (arith, length-append (take a ys) p, front) in
      let index : i ≡ length (take a ys ++ p) + (i - (a + length p)) = omega (arith, whole) in
      ap (λ (k : ℕ). get_or (overwritten ys a p) k 0) index ∙ get_or-append-add (take a ys ++ p) (drop (a + length p) ys) (i - (a + length p)) 0
      ∙ get_or-drop (a + length p) ys (i - (a + length p)) 0 ∙ ap (λ (k : ℕ). get_or ys k 0) (let e : a + length p + (i - (a + length p)) ≡ i = omega arith in
      e)
