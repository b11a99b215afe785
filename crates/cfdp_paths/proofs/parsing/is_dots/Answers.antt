use Rattle.std.proofs.Common.{sym, ◌∙◌, [], ◌∷◌}
use Rattle.cfdp_paths.specs.Paths.{dot}
use Rattle.cfdp_paths.proofs.Comparing.{same_name-compared}
use Rattle.cfdp_paths.proofs.parsing.is_dots.Goals as goal

pub returns-else-eq : goal.returns-else-eq
returns-else-eq c =
    rw (sym (same_name-compared c.eq.result c.args.name.now c.as_slice.result.now (dot ∷ []) c.eq.ensures c.as_slice.ensures) ∙ c.if-eq.false)
    (same_name-compared c.eq-else-eq.result c.args.name.now c.as_slice-else-eq.result.now (dot ∷ dot ∷ []) c.eq-else-eq.ensures c.as_slice-else-eq.ensures)
