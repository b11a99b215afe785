use Rattle.std.proofs.Common.{sym, ◌∙◌, ap, subst, ◌-◌, take}
use Rattle.std.specs.Prelude.{IfOk, IfErr, insert}
use Rattle.std.specs.List.Sorted.{IsStrictlySortedBy}
use Rattle.cfdp_paths.specs.Paths.{Path, path_cmp}
use Rattle.cfdp_paths.proofs.Below.{parent-take}
use Rattle.cfdp_leases.proofs.Sets.{exists}
use Rattle.cfdp_leases.proofs.gathering.find_parent.Goals as goal

-- the path of the first names that was looked for is the parent
pub returns-in_default : goal.returns-in_default
returns-in_default c =
    let xs = c.args.paths.now in
    let n = c.args.path.now in
    let is = ap (λ d. take (d - 1) n) c.depth-depth.ensures.depth ∙ sym (parent-take n) in
    record {
      found = subst (λ (p : Path). IfOk c.find_beginning.result (λ _. exists p xs)) is c.find_beginning.ensures.found;
      index = c.find_beginning.ensures.index;
      gap = subst (λ (p : Path). IfErr c.find_beginning.result (λ index. IsStrictlySortedBy path_cmp (insert xs index p))) is c.find_beginning.ensures.gap;
    }
