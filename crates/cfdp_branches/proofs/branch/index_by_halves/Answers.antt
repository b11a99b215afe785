use Rattle.std.proofs.Common.{rules, sym, ◌∙◌, refl, ◌∷◌, [], arith}
use Rattle.cfdp_paths.proofs.Comparing.{same_name-compared}
use Rattle.cfdp_paths.proofs.InOrder.{none_following}
use Rattle.cfdp_branches.specs.code.Branches.{under_names}
use Rattle.cfdp_branches.specs.code.Twigs.{twigs_of}
use Rattle.cfdp_branches.proofs.Seeking.{length-under_names, name_found, name_other}
use Rattle.cfdp_branches.proofs.branch.index_by_halves.Goals as goal
use Rattle.cfdp_branches.proofs.branch.index_by_halves.Goals.{else-index-twigs-via-then-index-twigs+else-eq, else-index-twigs-via-else-index-twigs}

pub returns-then-eq-clause-found : goal.returns-then-eq-clause-found
returns-then-eq-clause-found g c =
    name_found c.args.name.now c.args.twigs.now c.rank_of-index.result c.index-twigs-index.result c.rank_of-index.ensures.value
    (omega arith) c.index-twigs-index.is
    (sym (same_name-compared c.eq.result c.index-twigs-index.result.name.items c.args.name.now c.args.name.now (search rules) refl) ∙ c.if-eq.true)

pub returns-clause-absent : goal.returns-clause-absent
returns-clause-absent g c =
    elim c.else-index-twigs.branch [
      | else-index-twigs-via-then-index-twigs+else-eq w ↦ name_other c.args.name.now c.args.twigs.now c.rank_of-index.result w.index-twigs-index.result
          c.requires c.rank_of-index.ensures.value (omega arith) w.index-twigs-index.is
          (sym (same_name-compared w.eq.result w.index-twigs-index.result.name.items c.args.name.now c.args.name.now (search rules) refl) ∙ w.if-eq.false)
      | else-index-twigs-via-else-index-twigs w ↦ none_following (c.args.name.now ∷ []) (under_names (twigs_of c.args.twigs.now))
          (omega (arith, c.rank_of-index.ensures.value, length-under_names c.args.twigs.now))
    ]
