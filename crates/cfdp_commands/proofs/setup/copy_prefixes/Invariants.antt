use Rattle.std.proofs.Common.{◌≡◌, ◌++◌, drop}
use Rattle.cfdp_commands.proofs.setup.copy_prefixes.Given as goal

abbrev pub invariant-loop-index : goal.invariant-loop-index
invariant-loop-index l = record {
  copied : l.copy ++ drop l.index l.protected ≡ l.protected;
}
