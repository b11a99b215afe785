use Rattle.std.proofs.Common.{subst, List, take, take_all, arith}
use Rattle.cfdp_paths.specs.Paths.{Path}
use Rattle.cfdp_leases.proofs.Ordered.{same_set-there}
use Rattle.cfdp_leases.proofs.Sets.{exists}
use Rattle.cfdp_leases.proofs.gathering.add.Goals as goal

pub returns-in-Ok-clause-added : goal.returns-in-Ok-clause-added
returns-in-Ok-clause-added c =
    same_set-there c.args.paths.now.items c.args.path.now
    (subst (λ (p : Path). exists p c.args.paths.now.items) (take_all c.depth.result c.args.path.now (omega (arith, c.depth.ensures.depth)))
    (subst (λ (xs : List Path). exists (take c.depth.result c.args.path.now) xs) c.deref.ensures.value c.in-Ok.ensures.found))
