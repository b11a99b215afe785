use Rattle.std.proofs.Common.{◌++◌, subst, List}
use Rattle.std.specs.Prelude.{OnOk}
use Rattle.cfdp_paths.specs.Paths.{Path, ancestors}
use Rattle.cfdp_leases.specs.code.Footprint.{SameSet}
use Rattle.cfdp_leases.proofs.Ordered.{and_then, above-two}
use Rattle.cfdp_leases.proofs.gathering.add_above.Goals as goal

pub returns-in-Some-clause-added : goal.returns-in-Some-clause-added
returns-in-Some-clause-added c =
    subst (λ (more : List Path). OnOk c.add_ancestors-in-Some.result (SameSet c.add_ancestors-in-Some.new.paths.items (c.args.paths.now.items ++ more)))
    (above-two c.args.request.now c.first.result.now c.in-Some.second.now c.first.ensures c.in-Some.ensures.path)
    (and_then c.add_ancestors-in-Some.result c.args.paths.now.items c.add_ancestors.new.paths.items c.add_ancestors-in-Some.new.paths.items
    (ancestors c.first.result.now) (ancestors c.in-Some.second.now) c.in_ok-parent.ensures.added c.add_ancestors-in-Some.ensures.added)
