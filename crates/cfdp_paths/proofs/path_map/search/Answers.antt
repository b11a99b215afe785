use Rattle.std.proofs.Common.{get_or, sym, ap, ◌∙◌, subst, ◌≡◌, false, arith}
use Rattle.std.specs.Option.{option_copied}
use Rattle.std.specs.Ordering.{is_eq}
use Rattle.cfdp_paths.specs.Paths.{path_cmp}
use Rattle.cfdp_paths.specs.code.Paths.{path_in}
use Rattle.cfdp_paths.proofs.InOrder.{none_following, none_other, index_found}
use Rattle.cfdp_paths.proofs.path_map.search.Goals as goal
use Rattle.cfdp_paths.proofs.path_map.search.Goals.{else-index-entries-via-then-index-entries+else-is_eq, else-index-entries-via-else-index-entries}

pub returns-then-is_eq-clause-found : goal.returns-then-is_eq-clause-found
returns-then-is_eq-clause-found g c =
    index_found (path_in (option_copied c.args.sought)) c.args.entries.now c.rank-index.result c.index-entries-index.result c.cmp_sought.result
    c.rank-index.ensures.value (omega arith) c.cmp_sought.ensures (sym c.is_eq.ensures ∙ c.if-is_eq.true)

pub returns-clause-absent : goal.returns-clause-absent
returns-clause-absent g c =
    let k = path_in (option_copied c.args.sought) in
    let index = c.rank-index.ensures.value in
    elim c.else-index-entries.branch [
      | else-index-entries-via-then-index-entries+else-is_eq w ↦ none_other k w.index-entries-index.result c.args.entries.now c.requires (omega (arith, index))
          (subst (λ n. is_eq (path_cmp (get_or c.args.entries.now n w.index-entries-index.result).0 k) ≡ false) index (ap is_eq (sym w.cmp_sought.ensures)
          ∙ sym w.is_eq.ensures ∙ w.if-is_eq.false))
      | else-index-entries-via-else-index-entries w ↦ none_following k c.args.entries.now (omega (arith, index))
    ]
