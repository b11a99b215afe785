use Rattle.std.proofs.Common.{◌≡◌, drop, map}
use Rattle.cfdp_transactions.specs.Restart.{CanPutAll, put_all}
use Rattle.cfdp_run.specs.Putting.{as_directory}
use Rattle.cfdp_run.proofs.putting.make_directories.Given as goal

abbrev pub invariant-loop-path : goal.invariant-loop-path
invariant-loop-path l = record {
  can : CanPutAll l.entity (map as_directory (drop l.path-index l.paths));
  same : put_all l.entity (map as_directory (drop l.path-index l.paths)) ≡ put_all l.initial.entity (map as_directory l.paths);
}
