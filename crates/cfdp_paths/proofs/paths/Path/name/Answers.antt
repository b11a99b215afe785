use Rattle.std.proofs.Common.{◌≡◌, ◌≤◌, ℕ, length, get_or, refl, subst, sym, ap, ◌∙◌, inl, inr, arith}
use Rattle.std.specs.Option.{option_map, unwrap_or}
use Rattle.std.specs.Prelude.{[], Option, Some, None, All}
use Rattle.std.proofs.lemmas.Bool.{cases_lt}
use Rattle.std.proofs.lemmas.Option.{unwrap_or-slice_get}
use Rattle.std.proofs.lemmas.List.{get_or_past}
use Rattle.std.proofs.lemmas.Iterator.Consumers.{nth_from_yields_List, YieldsList-from_first}
use Rattle.cfdp_paths.specs.Paths.{Path, IsName}
use Rattle.cfdp_paths.proofs.paths.Path.name.Goals as goal

seen : {A B : Type 0} (f : A → B) (r : Option A) (d : A) → f (unwrap_or r d) ≡ unwrap_or (option_map f r) (f d)
seen f None d = refl
seen f (Some x) d = refl

short_at : (p : Path) → All IsName p → (i : ℕ) → length (get_or p i []) ≤ 96
short_at p names i = elim (cases_lt i (length p)) [
  | inl less ↦ (names i [] less).short
  | inr past ↦ subst (λ n. length n ≤ 96) (sym (get_or_past p i [] past)) (omega arith)
]

pub returns-clause-name : goal.returns-clause-name
returns-clause-name c =
    let item = nth_from_yields_List c.nth.result c.nth.new.self c.args.index c.nth.ensures.ran
    (YieldsList-from_first (λ x. x.now) (λ (names : Path). names) c.args.self.now c.names.ensures.names) in
    let index = c.args.index in
    ap (λ x. x.now) c.unwrap_or.ensures
    ∙ seen (λ x. x.now) c.nth.result _
    ∙ ap (λ name. unwrap_or name []) item
    ∙ unwrap_or-slice_get c.args.self.now index []

pub returns-clause-short : goal.returns-clause-short
returns-clause-short c =
    let here = returns-clause-name c in
    subst (λ n. length n ≤ 96) (sym here) (short_at c.args.self.now c.names.ensures.within.names c.args.index)
