-- A loop over the names of a path: which are still to come.
--     IsAhead                      this many names were taken, and these are left
--     ahead-start, ahead-next, ahead-end   it begins;  one more name comes;  none comes
use Rattle.std.proofs.Common.{◌≡◌, ℕ, ◌+◌, ◌<◌, ◌≤◌, [], ◌∷◌, length, get_or, take, drop, suc, sym, ap, ◌∙◌, arith, add-one, length-drop}
use Rattle.std.proofs.Math.Seq.{drop-cons}
use Rattle.std.proofs.lemmas.List.{take_all}
use Rattle.cfdp_paths.specs.Paths.{Name, Path}

pub record IsAhead (p left : Path) (done : ℕ) : Type 0 where
  pub names : left ≡ drop done p
  pub within : done ≤ length p

pub ahead-start : (p left : Path) → left ≡ p → IsAhead p left 0
ahead-start p left whole = record { names = whole; within = omega arith }

first_of : {name other : Name} {rest others : Path} → name ∷ rest ≡ other ∷ others → name ≡ other
first_of e = cc

rest_of : {name other : Name} {rest others : Path} → name ∷ rest ≡ other ∷ others → rest ≡ others
rest_of e = cc

module _ (p left : Path) (done : ℕ) (ahead : IsAhead p left done) where
  pub ahead-next : (name : Name) (rest : Path) → left ≡ name ∷ rest → (name ≡ get_or p done []) × (done < length p) × IsAhead p rest (done + 1)
  ahead-next name rest comes =
      let long = ap length (sym comes ∙ ahead.names) in
      let inside : done < length p = omega (arith, long, length-drop done p) in
      let parts : name ∷ rest ≡ get_or p done [] ∷ drop (suc done) p = sym comes ∙ ahead.names ∙ drop-cons p done [] inside in
      (first_of parts, inside, record { names = rest_of parts ∙ ap (λ n. drop n p) (sym (add-one done)); within = omega (arith, inside) })

  pub ahead-end : left ≡ [] → take done p ≡ p
  ahead-end none =
      let no = ap length (sym ahead.names ∙ none) in
      take_all done p (omega (arith, no, length-drop done p, ahead.within))
