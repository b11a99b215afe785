use Rattle.std.proofs.Common.{◌≡◌, ◌+◌, ◌<◌, ◌∷◌, length, refl, sym, ◌∙◌, ap, subst, arith}
use Rattle.std.specs.Option.{option_copied}
use Rattle.cfdp_paths.specs.Paths.{Name, Path}
use Rattle.cfdp_paths.specs.code.Paths.{path_in}
use Rattle.cfdp_paths.proofs.Separators.{names_of-next, names_of-last}
use Rattle.cfdp_paths.proofs.lent_names.NamesIterator.next.Goals as goal

pub returns-in-Some-clause-steps : goal.returns-in-Some-clause-steps
returns-in-Some-clause-steps c =
    let found = c.in-Some.ensures in
    sym c.self.view_is ∙ ap (λ o. path_in (option_copied o)) c.in_ok-octets.was
    ∙ names_of-next c.in_ok-octets.octets.now c.in-Some.offset (c.in-Some.offset + 1) refl found.0.high found.0.before found.1

-- a name less is left
fewer : (p rest : Path) (name : Name) → p ≡ name ∷ rest → length rest < length p
fewer p rest name e = subst (λ q. length rest < length q) (sym e) (omega arith)

pub returns-in-Some-clause-goes : goal.returns-in-Some-clause-goes
returns-in-Some-clause-goes c = record { on = λ _. (tt, tt, fewer _ _ _ (returns-in-Some-clause-steps c)); keeps = tt; rests = λ _. tt }

pub returns-in-None-clause-steps : goal.returns-in-None-clause-steps
returns-in-None-clause-steps c =
    sym c.self.view_is ∙ ap (λ o. path_in (option_copied o)) c.in_ok-octets.was ∙ names_of-last c.in_ok-octets.octets.now c.in-None.ensures
