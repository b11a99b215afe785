use Rattle.std.proofs.Common.{drop}
use Rattle.cfdp_run.proofs.Remakes.{Leaves, nodes_of}
use Rattle.cfdp_run.proofs.reconfigured.reconfigured.Given as goal

-- what is left of the filestore is put
abbrev pub invariant-loop-entry : goal.invariant-loop-entry
invariant-loop-entry l = Leaves l.to (drop l.entry-index (nodes_of l.from.filestore)) (record l.from { config = l.fn.config })
