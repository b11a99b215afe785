use Rattle.std.proofs.Common.{subst, List, arith}
use Rattle.cfdp_paths.specs.Paths.{Path, parent}
use Rattle.cfdp_leases.proofs.Closed.{closed_ok, same_set-parent}
use Rattle.cfdp_leases.proofs.Sets.{exists}
use Rattle.cfdp_leases.proofs.gathering.add_ancestors.Goals as goal

pub returns-in-Ok-clause-added : goal.returns-in-Ok-clause-added
returns-in-Ok-clause-added c =
    same_set-parent c.args.paths.now.items c.args.path.now c.requires.above (omega arith)
    (subst (λ (xs : List Path). exists (parent c.args.path.now) xs) c.deref.ensures.value c.in-Ok.ensures.found)

pub returns-in-Err-clause-above : goal.returns-in-Err-clause-above
returns-in-Err-clause-above c =
    closed_ok c.insert_ancestors.result c.args.paths.now.items c.insert_ancestors.new.paths.items c.args.path.now c.requires.above
    c.insert_ancestors.ensures.added
